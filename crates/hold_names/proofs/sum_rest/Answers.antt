-- `hold_names::sum_rest` meets its contract.
use native.Mathlib.Omega.{arith}
use Rattle.hold_names.proofs.Buckets.{sum_begin, sum_on, sum_end}
use Rattle.hold_names.proofs.sum_rest.Goals as goal

pub loop-i-init : goal.loop-i-init
loop-i-init c = sum_begin _ c.requires

pub overflow_add-h : goal.overflow_add-h
overflow_add-h c = omega (arith, c.wide.ensures, c.loop-i.invariant.small)

pub loop-i-preserved : goal.loop-i-preserved
loop-i-preserved c = sum_on c.loop-i.invariant c.loop-i-test.true c.wide.ensures.0

pub returns : goal.returns
returns c = sum_end c.loop-i.invariant c.loop-i-test.false
