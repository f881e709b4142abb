-- `report::next_lines` meets its contract.
use mathlib.Core.Path.{sym}
use lib.Seq.{length-take-le}
use Rattle.report.proofs.Rounds.{lines_next, lines_placed_law, lines_cut, lines_made}
use Rattle.report.proofs.next_lines.Goals as goal

pub hold_next-steps_held-requires : goal.hold_next-steps_held-requires
hold_next-steps_held-requires c = lines_next c.requires

pub slice_bounds-text_lines-end : goal.slice_bounds-text_lines-end
slice_bounds-text_lines-end c = lines_placed_law c.requires _ _ _ c.hold_next-steps_held.ensures

pub slice_bounds-text_lines-end-2 : goal.slice_bounds-text_lines-end-2
slice_bounds-text_lines-end-2 c = sym (length-take-le c.hold_next-steps_held.result c.hold_next-steps_held.new.ends (lines_placed_law c.requires _ _ _ c.hold_next-steps_held.ensures))

pub text_lines-behind-requires : goal.text_lines-behind-requires
text_lines-behind-requires c = lines_cut c.requires _ _ _ c.hold_next-steps_held.ensures c.hold_next-steps_held.auto.bytes c.hold_next-steps_held.auto.ends

pub returns : goal.returns
returns c = lines_made c.requires _ _ _ c.hold_next-steps_held.ensures _ _ c.text_lines-behind.ensures
