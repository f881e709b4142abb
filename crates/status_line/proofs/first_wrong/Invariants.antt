use Rattle.status_line.proofs.Wrong.{Looking}
use Rattle.status_line.proofs.first_wrong.Given as goal

abbrev pub invariant-loop-i : goal.invariant-loop-i
invariant-loop-i l = Looking l.format l.i l.after
