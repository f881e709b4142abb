-- `ask_plan_roots::put_roots` meets its contract.
use mathlib.Core.Path.{refl, sym, ◌∙◌}
use native.Mathlib.Omega.{arith}
use Rattle.std.proofs.lemmas.Bool.{eqb-true, eqb-false}
use Rattle.ask_plan_roots.proofs.Choosing.{from_targets, from_defaults, from_tops}
use borrow.Author.Rules.{rules}
use Rattle.ask_plan_roots.proofs.put_roots.Goals as goal

pub returns-then-not-is_empty : goal.returns-then-not-is_empty
returns-then-not-is_empty c = record { space = record { long = refl }; promise = from_targets c.requires (omega (arith, eqb-false _ _ (sym c.is_empty.ensures ∙ c.if-not-is_empty.true))) c.put_files.ensures }

pub returns-then-not-is_empty-2 : goal.returns-then-not-is_empty-2
returns-then-not-is_empty-2 c = record { space = record { long = refl }; promise = from_defaults c.requires (omega (arith, eqb-true _ _ (sym c.is_empty.ensures ∙ c.if-not-is_empty.false))) (omega (arith, eqb-false _ _ (sym c.is_empty-2.ensures ∙ c.if-not-is_empty-2.true))) c.put_files-then-not-is_empty-2.ensures }

pub returns : goal.returns
returns c = record { space = record { long = (search rules) }; promise = from_tops c.requires (omega (arith, eqb-true _ _ (sym c.is_empty.ensures ∙ c.if-not-is_empty.false))) (omega (arith, eqb-true _ _ (sym c.is_empty-2.ensures ∙ c.if-not-is_empty-2.false))) c.tops.ensures.promise }
