use Rattle.scan_depfile.proofs.Naming.{Matching}
use Rattle.scan_depfile.proofs.target_is.Given as goal

abbrev pub invariant-loop-k : goal.invariant-loop-k
invariant-loop-k l = Matching l.s l.from l.out l.i l.k
