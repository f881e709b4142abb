-- `run_core::lower_start` meets its contract.
use Rattle.std.specs.Prelude.{Some}
use mathlib.Core.Path.{sym, ap, ◌∙◌}
use Rattle.run_core.specs.Passes.{lower_start}
use Rattle.run_core.proofs.Steps.{lower_first, lower_next}
use Rattle.run_core.proofs.lower_start.Goals as goal

pub returns-in-None : goal.returns-in-None
returns-in-None c = lower_first _ ∙ ap (lower_start _) (sym c.in-None.is)

pub returns-in-Some : goal.returns-in-Some
returns-in-Some c = ap Some c.min.ensures ∙ lower_next _ _ ∙ ap (lower_start _) (sym c.in-Some.is)
