use Prim.Native.Nat.{◌-◌}
use Rattle.hold_names.proofs.Halving.{Halving}
use Rattle.hold_names.proofs.halve.Given as goal

abbrev pub invariant-loop-low : goal.invariant-loop-low
invariant-loop-low l = Halving l.names l.index l.count l.from l.by l.many l.path l.n l.made l.low l.high

abbrev pub decreases-loop-low : goal.decreases-loop-low
decreases-loop-low l = l.high - l.low
