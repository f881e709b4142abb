-- `hold_rules::is_rule_key` meets its contract.
use mathlib.Core.Path.{sym}
use Rattle.hold_keys.proofs.Numbers.{rule_key_law}
use Rattle.hold_rules.proofs.is_rule_key.Goals as goal

pub returns : goal.returns
returns c = rw c.key_number.ensures (sym (rule_key_law c.args.name.now))
