-- `hold_rules::has_command` meets its contract.
use Rattle.hold_rules.proofs.has_command.Goals as goal

pub returns : goal.returns
returns c = c.has_key.ensures
