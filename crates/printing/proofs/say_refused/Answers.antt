-- `printing::say_refused` meets its contract.
use Rattle.answers.specs.Numbers.{place_told}
use Rattle.printing.proofs.Putting.{said_refused}
use Rattle.printing.proofs.say_refused.Goals as goal

pub returns : goal.returns
returns c = said_refused c.args.p.number (place_told c.args.p) c.put_refused-behind.auto.line c.put_refused-behind.ensures c.end_line.ensures
