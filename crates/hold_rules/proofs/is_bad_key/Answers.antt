-- `hold_rules::is_bad_key` meets its contract.
use mathlib.Core.Path.{sym, ◌∙◌}
use Rattle.hold_rules.specs.Tests.{bad_key}
use Rattle.hold_rules.proofs.is_bad_key.Goals as goal

pub returns-then-not-is_rule_key : goal.returns-then-not-is_rule_key
unfolding bad_key
returns-then-not-is_rule_key c = λ log h. rw c.if-not-is_rule_key.true (rw (sym c.is_rule_key.ensures ∙ c.if-not-is_rule_key.true))

pub returns-else-not-is_rule_key : goal.returns-else-not-is_rule_key
unfolding bad_key
returns-else-not-is_rule_key c = λ log h. c.has_key.ensures log h ∙ rw (sym c.is_rule_key.ensures ∙ c.if-not-is_rule_key.false)
