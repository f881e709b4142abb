use Prim.Native.Nat.{◌-◌}
use lib.ListN.{length}
use Rattle.graph_list.proofs.Listing.{Listing}
use Rattle.graph_list.proofs.list_pending.Given as goal

abbrev pub invariant-loop-s : goal.invariant-loop-s
invariant-loop-s l = Listing l.g.mentions.now l.g.ends.now l.g.made.now l.order l.initial.pending l.initial.list l.pending l.clear l.list l.count

abbrev pub decreases-loop-s : goal.decreases-loop-s
decreases-loop-s l = length l.initial.pending - l.count
