use Rattle.slices.proofs.Filling.{Copying}
use Rattle.slices.proofs.bytes.copy_at.Given as goal

abbrev pub invariant-loop-i : goal.invariant-loop-i
invariant-loop-i l = Copying l.initial.dst l.at l.src l.dst l.i
