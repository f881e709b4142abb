use Rattle.hold_names.proofs.Lifting.{Lifting}
use Rattle.hold_names.proofs.lift.Given as goal

abbrev pub invariant-loop-i : goal.invariant-loop-i
invariant-loop-i l = Lifting l.initial.index l.from l.to l.by l.index l.i
