-- `graph_stale::keep_commands` meets its contract.
use mathlib.Core.Path.{◌∙◌, sym}
use Rattle.graph_stale.proofs.Marking.{keep_begin, keep_off, keep_on, keep_end}
use Rattle.graph_stale.proofs.keep_commands.Goals.{then-at-eq1, else-at-eq1}
use Rattle.graph_stale.proofs.keep_commands.Goals as goal

pub loop-s-init : goal.loop-s-init
loop-s-init c = keep_begin c.requires

pub loop-s-preserved : goal.loop-s-preserved
loop-s-preserved c = elim c.if-at-eq1.branch [
  | then-at-eq1 w ↦ rw w.marks-is (keep_off c.loop-s.invariant c.loop-s-test.true c.at.ensures w.if-at-eq1.true)
  | else-at-eq1 w ↦ rw w.marks-is (keep_on c.loop-s.invariant c.loop-s-test.true c.at.ensures w.if-at-eq1.false)
]

pub shape_of-marks : goal.shape_of-marks
shape_of-marks c = c.loop-s.invariant.long ∙ sym c.requires

pub returns : goal.returns
returns c = keep_end c.loop-s.invariant c.loop-s-test.false
