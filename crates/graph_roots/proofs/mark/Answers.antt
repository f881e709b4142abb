-- `graph_roots::mark` meets its contract.
use mathlib.Core.Path.{refl}
use Rattle.graph_roots.proofs.Marking.{mark_begin, mark_more, mark_end}
use Rattle.graph_roots.proofs.mark.Goals as goal

pub loop-f-init : goal.loop-f-init
loop-f-init c = mark_begin

pub bounds-marks-f : goal.bounds-marks-f
bounds-marks-f c = rw c.loop-f.invariant.state.long (c.requires c.loop-f.f-index c.loop-f-test.true)

pub loop-f-preserved : goal.loop-f-preserved
loop-f-preserved c = mark_more c.loop-f.invariant c.loop-f-test.true refl (c.requires c.loop-f.f-index c.loop-f-test.true)

pub shape_of-marks : goal.shape_of-marks
shape_of-marks c = c.loop-f.invariant.state.long

pub returns : goal.returns
returns c = mark_end c.loop-f.invariant c.loop-f-test.false
