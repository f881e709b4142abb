-- `hold_names::bucket` meets its contract: the number so far is the sum of the bytes passed.
use native.Mathlib.Omega.{arith}
use Rattle.hold_names.proofs.Buckets.{sum_begin, sum_then, bucket_is}
use Rattle.hold_names.proofs.bucket.Goals as goal

pub loop-i-init : goal.loop-i-init
loop-i-init c = (omega arith, sum_begin _ (omega arith))

pub sum_four-h-requires : goal.sum_four-h-requires
sum_four-h-requires c = (c.loop-i-test.true, c.loop-i.invariant.1.small)

pub loop-i-preserved : goal.loop-i-preserved
loop-i-preserved c = (omega (arith, c.loop-i-test.true), sum_then c.loop-i.invariant.1 c.sum_four-h.ensures)

pub sum_rest-requires : goal.sum_rest-requires
sum_rest-requires c = c.loop-i.invariant.1.small

pub returns : goal.returns
returns c = bucket_is _ c.loop-i.invariant.1 c.sum_rest.ensures c.min.ensures
