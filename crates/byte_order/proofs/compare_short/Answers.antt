-- `byte_order::compare_short` meets its contract.
use native.Mathlib.Omega.{arith}
use Rattle.byte_order.proofs.Comparing.{compare_begin, order_differs, order_more, order_lengths}
use Rattle.byte_order.proofs.compare_short.Goals as goal

pub loop-i-init : goal.loop-i-init
loop-i-init c = compare_begin

pub returns-then-x-y : goal.returns-then-x-y
returns-then-x-y c = order_differs c.loop-i.invariant (omega arith) (omega arith) c.if-x-y.true _ c.cmp.ensures

pub loop-i-preserved : goal.loop-i-preserved
loop-i-preserved c = order_more c.loop-i.invariant (omega arith) (omega arith) c.loop-i-test.true c.if-x-y.false

pub returns : goal.returns
returns c = order_lengths c.loop-i.invariant c.requires c.loop-i-test.false _ c.cmp-2.ensures
