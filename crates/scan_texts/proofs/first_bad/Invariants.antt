use Rattle.scan_texts.proofs.Texts.{BadLeft}
use Rattle.spec.specs.Bundle.{bundle_texts}
use Rattle.scan_texts.proofs.first_bad.Given as goal

abbrev pub invariant-loop-k : goal.invariant-loop-k
invariant-loop-k l = BadLeft (bundle_texts l.b) l.k
