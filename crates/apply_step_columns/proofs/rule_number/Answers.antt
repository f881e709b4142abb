-- `apply_step_columns::rule_number` meets its contract.
use mathlib.Core.Path.{sym, ◌∙◌}
use native.Mathlib.Omega.{arith}
use Rattle.spec.specs.Reading.{is_phony}
use Rattle.hold_bindings.proofs.Lookups.{newest_below}
use Rattle.apply_step_columns.proofs.Numbered.{number_phony, number_at, number_missing}
use Rattle.apply_step_columns.proofs.rule_number.Goals as goal

pub returns-then-equal : goal.returns-then-equal
unfolding is_phony
returns-then-equal c = λ log h. number_phony _ log (sym c.equal.ensures ∙ c.if-equal.true)

pub overflow_add-result : goal.overflow_add-result
overflow_add-result c =
    let s = c.requires in
    omega (arith, newest_below 1 c.args.name.now s.log _ (sym (c.newest.ensures s.log s.held) ∙ c.in-Some.is), s.held.rows.counted, s.held.rows.few)

pub returns-in-Some : goal.returns-in-Some
unfolding is_phony
returns-in-Some c = λ log h. number_at _ log (sym c.equal.ensures ∙ c.if-equal.false) (sym c.in-Some.is ∙ c.newest.ensures log h)

pub returns-in-None : goal.returns-in-None
unfolding is_phony
returns-in-None c = λ log h. number_missing _ log (sym c.equal.ensures ∙ c.if-equal.false) (sym c.in-None.is ∙ c.newest.ensures log h)
