-- `cut_forms::paths::cut_default` meets its contract.
use mathlib.Core.Path.{subst}
use Rattle.std.proofs.lemmas.Result.{err_from_is_err_and}
use Rattle.cut_forms.specs.Paths.{ListedAt}
use Rattle.cut_forms.specs.Statements.{StatementAt}
use Rattle.cut_forms.proofs.Faults.{no_form_law}
use Rattle.cut_forms.proofs.Words.{default_wrong, default_none, default_more, default_ends}
use Rattle.cut_forms.proofs.paths.cut_default.Goals as goal
use Rattle.cut_forms.proofs.paths.cut_default.Goals.{then-not-any-via-then-not-any, then-not-any-via-else-not-any+then-end-l}

pub returns-in_err-any : goal.returns-in_err-any
unfolding ListedAt StatementAt
returns-in_err-any c =
    let p = err_from_is_err_and c.from_residual.result c.from_residual.ensures.1 in
    rw (p.1, p.2) (default_wrong _ (subst (ListedAt _ _) c.in_err-any.was c.listed.ensures))

pub returns-then-not-any : goal.returns-then-not-any
unfolding ListedAt StatementAt
returns-then-not-any c = elim c.then-not-any.branch [
  | then-not-any-via-then-not-any w ↦ no_form_law (default_none (subst (ListedAt _ _) c.in_ok-any.was c.listed.ensures) w.if-not-any.true)
  | then-not-any-via-else-not-any+then-end-l w ↦ no_form_law (default_more (subst (ListedAt _ _) c.in_ok-any.was c.listed.ensures) w.if-not-any.false w.if-end-l.true)
]

pub returns : goal.returns
unfolding ListedAt StatementAt
returns c = default_ends (subst (ListedAt _ _) c.in_ok-any.was c.listed.ensures) c.if-not-any.false c.if-end-l.false
