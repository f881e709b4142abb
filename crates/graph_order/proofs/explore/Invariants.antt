use lib.ListN.{length, take}
use Prim.Native.Nat.{◌+◌, ◌*◌, ◌-◌}
use Rattle.graph_order.proofs.Exploring.{Exploring}
use Rattle.graph_order.proofs.explore.Given as goal

abbrev pub invariant-loop-depth : goal.invariant-loop-depth
invariant-loop-depth l =
    Exploring l.g.mentions.now l.g.ends.now l.g.made.now (length l.initial.order) (take l.already l.initial.order) l.root l.seen l.next l.path l.order l.depth l.done

abbrev pub decreases-loop-depth : goal.decreases-loop-depth
decreases-loop-depth l =
    3 * length l.initial.order - (2 * l.done + l.depth)
