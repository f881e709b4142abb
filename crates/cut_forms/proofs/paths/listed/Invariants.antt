use Prim.Native.Nat.{◌-◌}
use lib.ListN.{length}
use Rattle.cut_forms.proofs.Walks.{Passing}
use Rattle.cut_forms.proofs.paths.listed.Given as goal

abbrev pub invariant-loop-to : goal.invariant-loop-to
invariant-loop-to l = Passing l.l l.at l.i l.any

abbrev pub decreases-loop-to : goal.decreases-loop-to
decreases-loop-to l = length l.l - l.i
