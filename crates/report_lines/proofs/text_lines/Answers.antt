-- `report_lines::text_lines` meets its contract.
use mathlib.Core.Path.{◌∙◌}
use Rattle.report_lines.proofs.Lining.{lining_start, lining_from, lining_to, lining_room, lining_on, lining_end}
use Rattle.report_lines.proofs.text_lines.Goals as goal

pub loop-i-init : goal.loop-i-init
loop-i-init c = lining_start c.requires

pub slice_bounds-put_step_line-count : goal.slice_bounds-put_step_line-count
slice_bounds-put_step_line-count c = lining_from c.at-end.result c.loop-i-test.true c.at-end.ensures c.loop-i.invariant

pub slice_bounds-put_step_line-start : goal.slice_bounds-put_step_line-start
slice_bounds-put_step_line-start c = lining_from c.at-end.result c.loop-i-test.true c.at-end.ensures c.loop-i.invariant

pub slice_bounds-put_step_line-end : goal.slice_bounds-put_step_line-end
slice_bounds-put_step_line-end c = lining_to c.at-end.result c.loop-i-test.true c.at-end.ensures c.loop-i.invariant

pub put_step_line-behind-requires : goal.put_step_line-behind-requires
put_step_line-behind-requires c = lining_room c.at-end.result c.loop-i-test.true c.at-end.ensures c.loop-i.invariant

pub loop-i-preserved : goal.loop-i-preserved
loop-i-preserved c = lining_on c.at-end.result c.loop-i-test.true c.at-end.ensures c.loop-i.invariant _ _ c.put_step_line-behind.auto.line c.put_step_line-behind.ensures

pub shape_of-out : goal.shape_of-out
shape_of-out c = c.zero_bytes_from.auto.buf ∙ c.loop-i.invariant.kept

pub returns : goal.returns
returns c = lining_end _ c.loop-i-test.false c.loop-i.invariant c.zero_bytes_from.ensures
