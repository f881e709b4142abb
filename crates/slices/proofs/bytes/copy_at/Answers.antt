-- `slices::bytes::copy_at` meets its contract.
use Rattle.slices.proofs.Filling.{copy_begin, copy_more, copy_end}
use Rattle.slices.proofs.bytes.copy_at.Goals as goal

pub loop-i-init : goal.loop-i-init
loop-i-init c = copy_begin

pub loop-i-preserved : goal.loop-i-preserved
loop-i-preserved c = copy_more c.loop-i.invariant c.requires c.loop-i-test.true

pub returns : goal.returns
returns c = copy_end c.loop-i.invariant c.loop-i-test.false
