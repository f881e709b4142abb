-- `hold_rules::has_key` meets its contract.
use Rattle.hold_rules.specs.Tests.{keyed}
use Rattle.hold_rules.proofs.has_key.Goals as goal

pub returns : goal.returns
unfolding keyed
returns c = c.has_line.ensures
