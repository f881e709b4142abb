-- `byte_order::less` meets its contract.
use Rattle.lists.specs.Order.{order_is_lt}
use Rattle.byte_order.proofs.less.Goals as goal

pub returns : goal.returns
returns c = cc (order_is_lt c.args.a.now c.args.b.now)
