-- `expand_parts::filled` meets its contract.
use Rattle.expand_parts.proofs.Filling.{closer, fill_on}
use Rattle.expand_parts.proofs.filled.Goals as goal

pub loop-x-smaller : goal.loop-x-smaller
loop-x-smaller c = closer _ _ _ c.run_at-x.ensures.forward c.if-raw-next.false

pub loop-x-preserved : goal.loop-x-preserved
loop-x-preserved c = fill_on c.loop-x.invariant c.loop-x-test.true c.run_at-x.ensures
