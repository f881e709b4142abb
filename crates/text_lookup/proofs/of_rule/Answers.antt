-- `text_lookup::of_rule` meets its contract.
use Rattle.text_lookup.proofs.Newest.{rule_found, rule_missing}
use Rattle.text_lookup.proofs.of_rule.Goals as goal

pub returns-in-Some : goal.returns-in-Some
returns-in-Some c = rule_found c.args.name.now c.newest.ensures c.requires c.in-Some.is

pub returns-in-None : goal.returns-in-None
returns-in-None c = rule_missing c.args.name.now c.newest.ensures c.in-None.is c.of_file.ensures
