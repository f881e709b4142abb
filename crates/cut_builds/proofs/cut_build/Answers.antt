-- `cut_builds::cut_build` meets its contract.
use mathlib.Core.Path.{subst}
use Rattle.std.proofs.lemmas.Result.{err_from_is_err_and}
use Rattle.cut_forms.specs.Paths.{ListEnds, ListedAt}
use Rattle.cut_forms.specs.Statements.{StatementAt}
use Rattle.cut_forms.proofs.Faults.{no_form_law}
use Rattle.cut_forms.proofs.Walks.{paths_of_law}
use Rattle.cut_builds.proofs.Builds.{outputs_wrong, outputs_end, outputs_other, outputs_none, outputs_some}
use Rattle.cut_builds.proofs.cut_build.Goals as goal
use Rattle.cut_builds.proofs.cut_build.Goals.{then-l-end-via-then-l-end, then-l-end-via-else-l-end+then-l-end-ne58, then-l-end-via-else-l-end+else-l-end-ne58+then-not-any}

pub returns-then-l-end : goal.returns-then-l-end
unfolding ListedAt StatementAt
returns-then-l-end c =
    let w : ListEnds _ _ _ _ = subst (ListedAt _ _) c.in_ok-any.was c.listed.ensures in
    no_form_law (elim c.then-l-end.branch [
      | then-l-end-via-then-l-end b ↦ outputs_end w b.if-l-end.true
      | then-l-end-via-else-l-end+then-l-end-ne58 b ↦ outputs_other w b.if-l-end.false b.if-l-end-ne58.true
      | then-l-end-via-else-l-end+else-l-end-ne58+then-not-any b ↦ outputs_none w b.if-l-end.false b.if-l-end-ne58.false b.if-not-any.true
    ])

pub returns : goal.returns
unfolding ListedAt
returns c =
    let w : ListEnds _ _ _ _ = subst (ListedAt _ _) c.in_ok-any.was c.listed.ensures in
    rw (outputs_some w c.if-l-end.false c.if-l-end-ne58.false (c.if-not-any.false) c.gap-from.ensures) (c.cut_inputs.ensures w.raw (paths_of_law w))

pub returns-in_err-any : goal.returns-in_err-any
unfolding ListedAt StatementAt
returns-in_err-any c =
    let p = err_from_is_err_and c.from_residual.result c.from_residual.ensures.1 in
    rw (p.1, p.2) (outputs_wrong _ (subst (ListedAt _ _) c.in_err-any.was c.listed.ensures))
