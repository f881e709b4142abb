use Rattle.graph_order.proofs.Opens.{Opening}
use Rattle.graph_order.proofs.next_open.Given as goal

abbrev pub invariant-loop-i : goal.invariant-loop-i
invariant-loop-i l = Opening l.fs l.made l.seen l.from l.i
