-- `apply_equal_outputs::order_at` meets its contract.
use Rattle.apply_equal_outputs.proofs.Sorting.{entry_ready, order_held}
use Rattle.apply_equal_outputs.proofs.order_at.Goals as goal

pub order-requires : goal.order-requires
order-requires c = let p = c.requires in rw c.at-v.ensures (p.path.ready, entry_ready p.path p.lies)

pub returns : goal.returns
returns c = order_held c.at-v.ensures c.order.ensures
