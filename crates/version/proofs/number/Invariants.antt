use Rattle.version.proofs.Steps.{Reading}
use Rattle.version.proofs.number.Given as goal

abbrev pub invariant-loop-i : goal.invariant-loop-i
invariant-loop-i l = Reading l.s l.from l.n l.i
