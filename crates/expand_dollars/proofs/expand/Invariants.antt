use Prim.Native.Nat.{◌-◌}
use lib.ListN.{length}
use Rattle.expand_dollars.proofs.Expanding.{Expanding}
use Rattle.expand_dollars.proofs.expand.Given as goal

abbrev pub invariant-loop-i : goal.invariant-loop-i
invariant-loop-i l = Expanding l.t l.raw l.texts l.bind l.count l.initial.word l.word l.i l.n

abbrev pub decreases-loop-i : goal.decreases-loop-i
decreases-loop-i l = length l.raw - l.i
