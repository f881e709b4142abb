use Prim.Native.Nat.{◌-◌}
use Rattle.hold_bindings.proofs.Seeking.{Halving}
use Rattle.hold_bindings.proofs.place_of.Given as goal

abbrev pub invariant-loop-low : goal.invariant-loop-low
invariant-loop-low l = Halving l.texts l.bind l.count l.owner l.wanted l.low l.high

abbrev pub decreases-loop-low : goal.decreases-loop-low
decreases-loop-low l = l.high - l.low
