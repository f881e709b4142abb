-- `windows::equal_long` meets its contract.
use Rattle.lists.specs.Order.{order_is_eq}
use Rattle.windows.proofs.equal_long.Goals as goal

pub returns : goal.returns
returns c = cc (order_is_eq c.args.a.now c.args.b.now)
