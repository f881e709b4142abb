use Prim.Native.Nat.{◌-◌}
use Rattle.windows.specs.Windows.{Alike}
use Rattle.windows.proofs.compare_long.Given as goal

abbrev pub invariant-loop-i : goal.invariant-loop-i
invariant-loop-i l = Alike l.a l.b l.i

abbrev pub decreases-loop-i : goal.decreases-loop-i
decreases-loop-i l = l.n - l.i
