-- `byte_order::equal_short` meets its contract.
use native.Mathlib.Omega.{arith}
use Rattle.byte_order.proofs.Comparing.{compare_begin, equal_end, equal_differ, equal_more}
use Rattle.byte_order.proofs.equal_short.Goals as goal

pub loop-i-init : goal.loop-i-init
loop-i-init c = compare_begin

pub bounds-b-i : goal.bounds-b-i
bounds-b-i c = omega (arith, c.loop-i-test.true, c.requires)

pub returns-then-a-i : goal.returns-then-a-i
returns-then-a-i c = equal_differ c.loop-i.invariant c.loop-i-test.true (omega (arith, c.loop-i-test.true, c.requires)) c.if-a-i.true

pub loop-i-preserved : goal.loop-i-preserved
loop-i-preserved c = equal_more c.loop-i.invariant c.loop-i-test.true (omega (arith, c.loop-i-test.true, c.requires)) c.loop-i-test.true c.if-a-i.false

pub returns : goal.returns
returns c = equal_end c.loop-i.invariant c.loop-i-test.false (omega (arith, c.loop-i-test.false, c.requires))
