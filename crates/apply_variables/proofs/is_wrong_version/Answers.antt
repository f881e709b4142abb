-- `apply_variables::is_wrong_version` meets its contract.
use mathlib.Core.Path.{sym, ◌∙◌}
use Rattle.spec.specs.Statements.{wrong_version}
use Rattle.apply_variables.proofs.is_wrong_version.Goals as goal

pub returns-then-equal : goal.returns-then-equal
unfolding wrong_version
returns-then-equal c = c.refused.ensures ∙ rw (sym c.equal.ensures ∙ c.if-equal.true)

pub returns-else-equal : goal.returns-else-equal
unfolding wrong_version
returns-else-equal c = c.if-equal.false ∙ rw (sym c.equal.ensures ∙ c.if-equal.false)
