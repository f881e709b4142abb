-- `slid` meets its contract.
use Rattle.status_record.proofs.Steps.{slid_law, spread}
use borrow.Author.Rules.{rules}
use Rattle.status_record.proofs.slid.Goals as goal

pub returns : goal.returns
unfolding spread
returns c = slid_law c.args.w c.args.t (search rules)
