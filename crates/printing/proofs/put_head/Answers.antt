-- `printing::put_head` meets its contract.
use Rattle.printing.proofs.Putting.{head_law}
use Rattle.printing.proofs.put_head.Goals as goal

pub returns : goal.returns
returns c = head_law c.args.place c.args.count c.put_worded-slash.ensures c.put_worded-bracket.ensures c.put.ensures
