-- `run_core::pass_rows` meets its contract.
use mathlib.Core.Path.{refl}
use Rattle.run_core.proofs.Steps.{rows_begin, rows_more, rows_end, rows_long}
use Rattle.run_core.proofs.pass_rows.Goals as goal

pub loop-link-init : goal.loop-link-init
loop-link-init c = rows_begin

pub turn_flag-next-requires : goal.turn_flag-next-requires
turn_flag-next-requires c = tt

pub turn_marks-requires : goal.turn_marks-requires
turn_marks-requires c = c.loop-link.invariant.small

pub loop-link-preserved : goal.loop-link-preserved
loop-link-preserved c = rows_more c.loop-link.invariant c.loop-link-test.true refl c.turn_flag-next.ensures c.turn_marks.ensures

pub shape_of-marks : goal.shape_of-marks
shape_of-marks c = rows_long c.loop-link.invariant

pub returns : goal.returns
returns c = rows_end c.loop-link.invariant c.loop-link-test.false
