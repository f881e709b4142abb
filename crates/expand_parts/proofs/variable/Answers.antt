-- `expand_parts::variable` meets its contract.
use Rattle.expand_parts.proofs.Variables.{found_entry, found_value, unset_value}
use Rattle.expand_parts.proofs.variable.Goals as goal

pub value_place-p-requires : goal.value_place-p-requires
value_place-p-requires c = found_entry c.args.wanted.now c.newest_seen.ensures c.requires c.in-Some.is

pub returns-in-Some : goal.returns-in-Some
returns-in-Some c = λ raw. found_value c.args.wanted.now c.newest_seen.ensures raw c.args.next c.in-Some.is c.value_place-p.ensures

pub returns-in-None : goal.returns-in-None
returns-in-None c = λ raw. unset_value c.args.wanted.now c.newest_seen.ensures raw c.args.next c.in-None.is
