-- `cut_builds::implicit` meets its contract.
use mathlib.Core.Path.{subst}
use borrow.Author.Rules.{rules}
use Rattle.std.proofs.lemmas.Result.{err_from_is_err_and}
use Rattle.cut_forms.specs.Paths.{ListEnds, ListedAt}
use Rattle.cut_forms.specs.Statements.{StatementAt}
use Rattle.cut_forms.proofs.Walks.{paths_of_law}
use Rattle.cut_builds.proofs.Builds.{implicit_wrong, implicit_are}
use Rattle.cut_builds.proofs.implicit.Goals as goal

pub after_implicit-requires : goal.after_implicit-requires
unfolding ListedAt
after_implicit-requires c =
    let w : ListEnds _ _ _ _ = subst (ListedAt _ _) c.in_ok-end.was c.listed.ensures in
    (search rules, w.within)

pub returns : goal.returns
unfolding ListedAt
returns c = λ b i k.
    let w : ListEnds _ _ _ _ = subst (ListedAt _ _) c.in_ok-end.was c.listed.ensures in
    rw (implicit_are b i w) (c.after_implicit.ensures b i w.raw k (paths_of_law w))

pub returns-in_err-end : goal.returns-in_err-end
unfolding ListedAt StatementAt
returns-in_err-end c = λ b i k.
    let p = err_from_is_err_and c.from_residual.result c.from_residual.ensures.1 in
    rw (p.1, p.2) (implicit_wrong b i _ (subst (ListedAt _ _) c.in_err-end.was c.listed.ensures))
