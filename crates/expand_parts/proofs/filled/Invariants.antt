use Prim.Native.Nat.{◌-◌}
use lib.ListN.{length}
use Rattle.expand_parts.proofs.Filling.{Filling}
use Rattle.expand_parts.proofs.filled.Given as goal

abbrev pub invariant-loop-x : goal.invariant-loop-x
invariant-loop-x l = Filling l.t l.raw l.texts l.bind l.count l.initial.x l.x

abbrev pub decreases-loop-x : goal.decreases-loop-x
decreases-loop-x l = length l.raw - l.x.next
