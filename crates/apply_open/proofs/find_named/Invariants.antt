use Rattle.apply_open.proofs.Finding.{NoneYet}
use Rattle.spec.specs.Bundle.{bundle_names}
use Rattle.apply_open.proofs.find_named.Given as goal

abbrev pub invariant-loop-k : goal.invariant-loop-k
invariant-loop-k l = NoneYet (bundle_names l.b) l.path l.k
