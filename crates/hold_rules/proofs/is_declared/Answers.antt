-- `hold_rules::is_declared` meets its contract.
use mathlib.Core.Path.{sym, ◌∙◌}
use Rattle.hold_rules.proofs.Lookups.{declared_held}
use Rattle.spec.specs.Reading.{is_phony}
use Rattle.hold_rules.proofs.is_declared.Goals as goal

pub returns-then-equal : goal.returns-then-equal
unfolding is_phony
returns-then-equal c = λ log rd b. c.if-equal.true ∙ sym (declared_held b c.args.name.now ∙ rw (sym c.equal.ensures ∙ c.if-equal.true))

pub returns-else-equal : goal.returns-else-equal
unfolding is_phony
returns-else-equal c = λ log rd b. c.has_line.ensures log b.held ∙ sym (declared_held b c.args.name.now ∙ rw (sym c.equal.ensures ∙ c.if-equal.false))
