use Prim.Native.Nat.{◌-◌}
use Rattle.status_rates.proofs.Cut.{Halving}
use Rattle.status_rates.proofs.tenths.Given as goal

abbrev pub invariant-loop-low : goal.invariant-loop-low
invariant-loop-low l = Halving l.v l.low l.high

abbrev pub decreases-loop-low : goal.decreases-loop-low
decreases-loop-low l = l.high - l.low
