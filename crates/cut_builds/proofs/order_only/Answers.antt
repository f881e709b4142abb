-- `cut_builds::order_only` meets its contract.
use mathlib.Core.Path.{subst}
use Rattle.std.proofs.lemmas.Result.{err_from_is_err_and}
use Rattle.cut_forms.specs.Paths.{ListEnds, ListedAt}
use Rattle.cut_forms.specs.Statements.{StatementAt}
use Rattle.cut_forms.proofs.Faults.{no_form_law}
use Rattle.cut_forms.proofs.Walks.{paths_of_law}
use Rattle.cut_builds.proofs.Builds.{inputs_at, order_wrong, order_more, order_ends}
use Rattle.cut_builds.proofs.order_only.Goals as goal

pub returns-then-end-l : goal.returns-then-end-l
unfolding ListedAt StatementAt
returns-then-end-l c = λ b i m k p. no_form_law (order_more b i m (subst (ListedAt _ _) c.in_ok-end.was c.listed.ensures) c.if-end-l.true)

pub returns : goal.returns
unfolding ListedAt StatementAt
returns c = λ b i m k p.
    let w : ListEnds _ _ _ _ = subst (ListedAt _ _) c.in_ok-end.was c.listed.ensures in
    inputs_at k (order_ends b i m w c.if-end-l.false) p (paths_of_law w)

pub returns-in_err-end : goal.returns-in_err-end
unfolding ListedAt StatementAt
returns-in_err-end c = λ b i m k q.
    let p = err_from_is_err_and c.from_residual.result c.from_residual.ensures.1 in
    rw (p.1, p.2) (order_wrong b i m _ (subst (ListedAt _ _) c.in_err-end.was c.listed.ensures))
