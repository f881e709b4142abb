use lib.ListN.{length}
use Rattle.lists.specs.Bytes.{eq_bytes}
use Rattle.byte_order.proofs.Comparing.{Comparing}
use Rattle.byte_order.proofs.equal_short.Given as goal

abbrev pub invariant-loop-i : goal.invariant-loop-i
invariant-loop-i l = Comparing eq_bytes l.a l.b (length l.a) l.i
