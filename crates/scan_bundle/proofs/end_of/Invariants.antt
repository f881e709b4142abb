use Rattle.scan_bundle.proofs.Running.{Running}
use Rattle.scan_bundle.proofs.end_of.Given as goal

abbrev pub invariant-loop-k : goal.invariant-loop-k
invariant-loop-k l = Running l.b l.n l.first l.start l.least l.most l.end l.k
