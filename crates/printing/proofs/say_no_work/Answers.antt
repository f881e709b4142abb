-- `printing::say_no_work` meets its contract.
use Rattle.printing.proofs.Putting.{ended_law}
use Rattle.printing.proofs.say_no_work.Goals as goal

pub returns : goal.returns
returns c = ended_law c.put-behind.auto.line c.put-behind.ensures c.end_line.ensures
