-- `text_lookup::of_block` meets its contract.
use Rattle.text_lookup.proofs.Newest.{block_found, block_missing}
use Rattle.text_lookup.proofs.of_block.Goals as goal

pub returns-in-Some : goal.returns-in-Some
returns-in-Some c = block_found c.args.name.now c.newest.ensures c.requires c.in-Some.is

pub returns-in-None : goal.returns-in-None
returns-in-None c = block_missing c.args.name.now c.newest.ensures c.in-None.is c.of_rule.ensures
