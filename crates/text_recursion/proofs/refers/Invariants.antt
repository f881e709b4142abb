use Prim.Native.Nat.{◌-◌}
use lib.ListN.{length}
use Rattle.text_recursion.specs.Depth.{marks}
use Rattle.text_recursion.proofs.Referring.{Referring}
use Rattle.text_recursion.proofs.refers.Given as goal

abbrev pub invariant-loop-i : goal.invariant-loop-i
invariant-loop-i l = Referring l.t l.raw (marks l.d) l.i

abbrev pub decreases-loop-i : goal.decreases-loop-i
decreases-loop-i l = length l.raw - l.i
