-- `cut_builds::cut_inputs` meets its contract.
use mathlib.Core.Path.{subst}
use borrow.Author.Rules.{rules}
use Rattle.std.proofs.lemmas.Result.{err_from_is_err_and}
use Rattle.cut_forms.specs.Paths.{ListEnds, ListedAt}
use Rattle.cut_forms.specs.Statements.{NameEnds, NamedAt, StatementAt}
use Rattle.cut_builds.proofs.Builds.{name_wrong, inputs_wrong, inputs_are, head_at}
use Rattle.cut_builds.proofs.cut_inputs.Goals as goal

pub listed-requires : goal.listed-requires
unfolding NamedAt
listed-requires c =
    let n : NameEnds _ _ _ _ = subst (NamedAt _ _ _) c.in_ok-to.was c.rule_name.ensures in
    (search rules, n.reads.within)

pub after_inputs-requires : goal.after_inputs-requires
unfolding ListedAt
after_inputs-requires c =
    let w : ListEnds _ _ _ _ = subst (ListedAt _ _) c.in_ok-end.was c.listed.ensures in
    (search rules, w.within)

pub returns : goal.returns
unfolding NamedAt ListedAt
returns c = λ os p.
    let n : NameEnds _ _ _ _ = subst (NamedAt _ _ _) c.in_ok-to.was c.rule_name.ensures in
    let w : ListEnds _ _ _ _ = subst (ListedAt _ _) c.in_ok-end.was c.listed.ensures in
    rw (inputs_are os n w) (c.after_inputs.ensures _ w.raw (head_at os n w p))

pub returns-in_err-end : goal.returns-in_err-end
unfolding NamedAt ListedAt StatementAt
returns-in_err-end c = λ os q.
    let n : NameEnds _ _ _ _ = subst (NamedAt _ _ _) c.in_ok-to.was c.rule_name.ensures in
    let p = err_from_is_err_and c.from_residual-in_err-end.result c.from_residual-in_err-end.ensures.1 in
    rw (p.1, p.2) (inputs_wrong os n (subst (ListedAt _ _) c.in_err-end.was c.listed.ensures))

pub returns-in_err-to : goal.returns-in_err-to
unfolding NamedAt StatementAt
returns-in_err-to c = λ os q.
    let p = err_from_is_err_and c.from_residual.result c.from_residual.ensures.1 in
    rw (p.1, p.2) (name_wrong os _ (subst (NamedAt _ _ _) c.in_err-to.was c.rule_name.ensures))
