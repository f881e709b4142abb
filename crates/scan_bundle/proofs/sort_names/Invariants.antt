use Rattle.scan_bundle.proofs.Sorting.{Sorting}
use Rattle.scan_bundle.proofs.sort_names.Given as goal

abbrev pub invariant-loop-k : goal.invariant-loop-k
invariant-loop-k l = Sorting l.b l.n l.initial.order l.order l.k
