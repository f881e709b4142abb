-- `cut_builds::after_implicit` meets its contract.
use mathlib.Core.Logic.{inl, inr}
use mathlib.Core.Path.{ap, subst}
use borrow.Author.Rules.{rules}
use Rattle.cut_forms.specs.Inputs.{after_implicit}
use Rattle.cut_forms.specs.Statements.{BarEnds, BarsAt, StatementAt}
use Rattle.cut_forms.proofs.Faults.{no_form_law}
use Rattle.cut_builds.proofs.Builds.{no_paths_law, inputs_at}
use Rattle.cut_builds.proofs.after_implicit.Goals as goal

pub order_only-requires : goal.order_only-requires
unfolding BarsAt
order_only-requires c =
    let e : BarEnds _ _ _ _ = c.in-Two.ensures in
    (search rules, e.within)

pub returns-in-LineEnd : goal.returns-in-LineEnd
unfolding BarsAt StatementAt after_implicit
returns-in-LineEnd c = λ b i m k p. inputs_at k (ap (after_implicit b i m) c.in-LineEnd.ensures) p (no_paths_law _)

pub returns-in-Two : goal.returns-in-Two
unfolding BarsAt StatementAt after_implicit
returns-in-Two c = λ b i m k p.
    let e : BarEnds _ _ _ _ = c.in-Two.ensures in
    rw (ap (after_implicit b i m) e.cut) (c.order_only.ensures b i m k p)

pub returns-in-One : goal.returns-in-One
unfolding BarsAt StatementAt after_implicit
returns-in-One c = λ b i m k p. elim c.in-One.is [
  | inl (x, e) ↦ (let y : BarEnds _ _ _ _ = subst (BarsAt c.args.l.now c.args.at) e c.bars.ensures in no_form_law (ap (after_implicit b i m) y.cut))
  | inr e ↦ no_form_law (ap (after_implicit b i m) (subst (BarsAt c.args.l.now c.args.at) e c.bars.ensures))
]
