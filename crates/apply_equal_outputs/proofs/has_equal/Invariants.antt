use Prim.Native.Nat.{◌-◌}
use lib.ListN.{length}
use Rattle.apply_equal_outputs.proofs.Sorting.{Scanning}
use Rattle.apply_equal_outputs.proofs.has_equal.Given as goal

abbrev pub invariant-loop-from : goal.invariant-loop-from
invariant-loop-from l = Scanning l.l l.texts l.bind l.c l.start l.initial.table l.table l.n l.i

abbrev pub decreases-loop-from : goal.decreases-loop-from
decreases-loop-from l = length l.l - l.i
