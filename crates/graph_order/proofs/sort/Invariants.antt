use lib.ListN.{length}
use Rattle.graph_order.proofs.Roots.{Rooting}
use Rattle.graph_order.proofs.sort.Given as goal

abbrev pub invariant-loop-i : goal.invariant-loop-i
invariant-loop-i l = Rooting l.g.mentions.now l.g.ends.now l.g.made.now l.roots (length l.initial.order) l.seen l.next l.path l.order l.done l.i
