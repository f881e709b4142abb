use Rattle.lists.specs.Order.{order_bytes}
use Rattle.byte_order.proofs.Comparing.{Comparing}
use Rattle.byte_order.proofs.compare_short.Given as goal

abbrev pub invariant-loop-i : goal.invariant-loop-i
invariant-loop-i l = Comparing order_bytes l.a l.b l.n l.i
