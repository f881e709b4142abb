use Prim.Native.Nat.{◌-◌}
use Rattle.apply_equal_outputs.proofs.Sorting.{Halving}
use Rattle.apply_equal_outputs.proofs.place_for.Given as goal

abbrev pub invariant-loop-low : goal.invariant-loop-low
invariant-loop-low l = Halving l.l l.texts l.bind l.c l.from l.to l.table l.low l.high

abbrev pub decreases-loop-low : goal.decreases-loop-low
decreases-loop-low l = l.high - l.low
