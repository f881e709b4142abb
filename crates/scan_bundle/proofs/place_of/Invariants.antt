use Prim.Native.Nat.{◌-◌}
use Rattle.spec.specs.Bundle.{bundle_names}
use Rattle.scan_bundle.proofs.Sorting.{Halving}
use Rattle.scan_bundle.proofs.place_of.Given as goal

abbrev pub invariant-loop-low : goal.invariant-loop-low
invariant-loop-low l = Halving (bundle_names l.b) l.n l.order l.name l.low l.high

abbrev pub decreases-loop-low : goal.decreases-loop-low
decreases-loop-low l = l.high - l.low
