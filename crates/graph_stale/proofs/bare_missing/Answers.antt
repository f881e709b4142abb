-- `graph_stale::bare_missing` meets its contract.
use mathlib.Core.Path.{sym, ◌∙◌}
use native.Mathlib.Omega.{arith}
use Rattle.std.proofs.lemmas.Bool.{eqb-true, eqb-false}
use Rattle.hold_columns.proofs.Held.{outs_low}
use Rattle.graph_stale.proofs.Judging.{bare_not, bare_is}
use Rattle.graph_stale.proofs.bare_missing.Goals as goal

pub returns-then-not-is_empty : goal.returns-then-not-is_empty
returns-then-not-is_empty c = bare_not _ _ _ _ c.inputs-fs.ensures (omega (arith, eqb-false _ _ (sym c.is_empty.ensures ∙ c.if-not-is_empty.true)))

pub is_outdated-requires : goal.is_outdated-requires
is_outdated-requires c = outs_low c.requires.1 _ _ c.outs.ensures

pub returns : goal.returns
returns c = bare_is _ _ _ _ c.inputs-fs.ensures (omega (arith, eqb-true _ _ (sym c.is_empty.ensures ∙ c.if-not-is_empty.false))) c.outs.ensures c.is_outdated.ensures
