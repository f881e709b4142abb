-- `printing::put_refused` meets its contract.
use Rattle.answers.specs.Numbers.{place_told}
use Rattle.printing.proofs.Putting.{refused_law}
use Rattle.printing.proofs.put_refused.Goals as goal

pub returns : goal.returns
returns c = refused_law c.args.p.number (place_told c.args.p) c.put_worded-numbered.ensures c.put-behind.ensures c.put_place.ensures
