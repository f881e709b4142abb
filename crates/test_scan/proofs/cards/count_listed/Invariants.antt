use Rattle.test_scan.proofs.Listing.{Counting}
use lib.ListN.{length}
use Prim.Native.Nat.{◌+◌, ◌-◌}
use Rattle.test_scan.proofs.cards.count_listed.Given as goal

abbrev pub invariant-loop-end : goal.invariant-loop-end
invariant-loop-end l = Counting l.card l.list l.from l.n

abbrev pub decreases-loop-end : goal.decreases-loop-end
decreases-loop-end l = length l.list + 1 - l.from
