-- `cut_lines::cut_statement` meets its contract.
use mathlib.Core.Path.{sym, ◌∙◌, subst}
use Rattle.std.proofs.lemmas.Result.{err_from_is_err_and}
use lib.Seq.{length-take-le}
use Rattle.cut_forms.specs.Statements.{StatementAt, AssignmentAt}
use Rattle.cut_lines.proofs.Begins.{statement_rule, statement_build, statement_default, statement_include, statement_subninja, statement_binding}
use Rattle.cut_lines.proofs.cut_statement.Goals as goal

pub slice_bounds-w-end : goal.slice_bounds-w-end
slice_bounds-w-end c = sym (length-take-le _ _ c.name_end-end.ensures.within)

pub returns-then-equal : goal.returns-then-equal
returns-then-equal c =
    rw (statement_rule c.name_end-end.ensures (sym c.equal.ensures ∙ c.if-equal.true))
    c.cut_rule.ensures

pub returns-then-equal-2 : goal.returns-then-equal-2
returns-then-equal-2 c =
    rw (statement_build c.name_end-end.ensures (sym c.equal.ensures ∙ c.if-equal.false) (sym c.equal-2.ensures ∙ c.if-equal-2.true))
    c.cut_build.ensures

pub returns-then-equal-3 : goal.returns-then-equal-3
returns-then-equal-3 c =
    rw (statement_default c.name_end-end.ensures (sym c.equal.ensures ∙ c.if-equal.false) (sym c.equal-2.ensures ∙ c.if-equal-2.false) (sym c.equal-3.ensures ∙ c.if-equal-3.true))
    c.cut_default.ensures

pub returns-then-equal-4 : goal.returns-then-equal-4
returns-then-equal-4 c =
    rw (statement_include c.name_end-end.ensures (sym c.equal.ensures ∙ c.if-equal.false) (sym c.equal-2.ensures ∙ c.if-equal-2.false) (sym c.equal-3.ensures ∙ c.if-equal-3.false) (sym c.equal-4.ensures ∙ c.if-equal-4.true))
    c.cut_open.ensures

pub returns-then-equal-5 : goal.returns-then-equal-5
returns-then-equal-5 c =
    rw (statement_subninja c.name_end-end.ensures (sym c.equal.ensures ∙ c.if-equal.false) (sym c.equal-2.ensures ∙ c.if-equal-2.false) (sym c.equal-3.ensures ∙ c.if-equal-3.false) (sym c.equal-4.ensures ∙ c.if-equal-4.false) (sym c.equal-5.ensures ∙ c.if-equal-5.true))
    c.cut_open-then-equal-5.ensures

pub returns : goal.returns
unfolding StatementAt AssignmentAt
returns c =
    rw (statement_binding c.name_end-end.ensures (sym c.equal.ensures ∙ c.if-equal.false) (sym c.equal-2.ensures ∙ c.if-equal-2.false) (sym c.equal-3.ensures ∙ c.if-equal-3.false) (sym c.equal-4.ensures ∙ c.if-equal-4.false) (sym c.equal-5.ensures ∙ c.if-equal-5.false))
    (subst (AssignmentAt _ _) c.in_ok-from.was c.cut_binding.ensures)

pub returns-in_err-from : goal.returns-in_err-from
unfolding StatementAt AssignmentAt
returns-in_err-from c =
    let p = err_from_is_err_and c.from_residual.result c.from_residual.ensures.1 in
    rw (p.1, p.2) (rw (statement_binding c.name_end-end.ensures (sym c.equal.ensures ∙ c.if-equal.false) (sym c.equal-2.ensures ∙ c.if-equal-2.false) (sym c.equal-3.ensures ∙ c.if-equal-3.false) (sym c.equal-4.ensures ∙ c.if-equal-4.false) (sym c.equal-5.ensures ∙ c.if-equal-5.false))
    (subst (AssignmentAt _ _) c.in_err-from.was c.cut_binding.ensures))
