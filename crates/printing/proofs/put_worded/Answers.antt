-- `printing::put_worded` meets its contract.
use Rattle.printing.proofs.Putting.{worded_law}
use Rattle.printing.proofs.put_worded.Goals as goal

pub returns : goal.returns
returns c = worded_law c.args.n c.put-behind.ensures c.put_number.ensures
