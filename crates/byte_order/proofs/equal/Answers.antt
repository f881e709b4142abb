-- `byte_order::equal` meets its contract.
use Rattle.byte_order.proofs.Comparing.{equal_length}
use Rattle.byte_order.proofs.equal.Goals as goal

pub returns-then-a-b : goal.returns-then-a-b
returns-then-a-b c = equal_length _ _ c.if-a-b.true
