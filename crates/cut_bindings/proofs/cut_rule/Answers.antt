-- `cut_bindings::cut_rule` meets its contract.
use mathlib.Core.Path.{subst}
use Rattle.std.proofs.lemmas.Result.{err_from_is_err_and}
use Rattle.cut_forms.specs.Statements.{NameEnds, NamedAt, StatementAt}
use Rattle.cut_forms.proofs.Faults.{no_form_law}
use Rattle.cut_forms.proofs.Words.{rule_wrong, rule_more, rule_ends_law}
use Rattle.cut_bindings.proofs.cut_rule.Goals as goal

pub gap-end-requires : goal.gap-end-requires
unfolding NamedAt
gap-end-requires c =
    let n : NameEnds _ _ _ _ = subst (NamedAt _ _ _) c.in_ok-to.was c.rule_name.ensures in
    n.reads.within

pub returns-then-end-l : goal.returns-then-end-l
unfolding NamedAt StatementAt
returns-then-end-l c = no_form_law (rule_more c.gap-from.ensures (subst (NamedAt _ _ _) c.in_ok-to.was c.rule_name.ensures) c.gap-end.ensures c.if-end-l.true)

pub returns : goal.returns
unfolding NamedAt StatementAt
returns c = rule_ends_law c.gap-from.ensures (subst (NamedAt _ _ _) c.in_ok-to.was c.rule_name.ensures) c.gap-end.ensures c.if-end-l.false

pub returns-in_err-to : goal.returns-in_err-to
unfolding NamedAt StatementAt
returns-in_err-to c =
    let p = err_from_is_err_and c.from_residual.result c.from_residual.ensures.1 in
    rw (p.1, p.2) (rule_wrong c.gap-from.ensures (subst (NamedAt _ _ _) c.in_err-to.was c.rule_name.ensures))
