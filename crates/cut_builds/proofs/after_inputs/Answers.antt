-- `cut_builds::after_inputs` meets its contract.
use mathlib.Core.Path.{ap}
use mathlib.Core.List.{[]}
use borrow.Author.Rules.{rules}
use Rattle.cut_forms.specs.Inputs.{after_inputs}
use Rattle.cut_forms.specs.Statements.{BarEnds, BarsAt, StatementAt}
use Rattle.cut_forms.proofs.Faults.{no_form_law}
use Rattle.cut_builds.proofs.Builds.{no_paths_law, inputs_at}
use Rattle.cut_builds.proofs.after_inputs.Goals as goal

pub implicit-requires : goal.implicit-requires
unfolding BarsAt
implicit-requires c =
    let e : BarEnds _ _ _ _ = c.in-One.ensures in
    (search rules, e.within)

pub order_only-requires : goal.order_only-requires
unfolding BarsAt
order_only-requires c =
    let e : BarEnds _ _ _ _ = c.in-Two.ensures in
    (search rules, e.within)

pub returns-in-LineEnd : goal.returns-in-LineEnd
unfolding BarsAt StatementAt after_inputs
returns-in-LineEnd c = λ b i k. inputs_at k (ap (after_inputs b i) c.in-LineEnd.ensures) (no_paths_law _) (no_paths_law _)

pub returns-in-One : goal.returns-in-One
unfolding BarsAt
returns-in-One c = λ b i k.
    let e : BarEnds _ _ _ _ = c.in-One.ensures in
    rw (ap (after_inputs b i) e.cut) (c.implicit.ensures b i k)

pub returns-in-Two : goal.returns-in-Two
unfolding BarsAt after_inputs
returns-in-Two c = λ b i k.
    let e : BarEnds _ _ _ _ = c.in-Two.ensures in
    rw (ap (after_inputs b i) e.cut) (c.order_only.ensures b i [] k (no_paths_law _))

pub returns-in-Other : goal.returns-in-Other
unfolding BarsAt StatementAt after_inputs
returns-in-Other c = λ b i k. no_form_law (ap (after_inputs b i) c.in-Other.ensures)
