-- `run_core::is_heavy` meets its contract.
use Rattle.std.specs.Prelude.{Option, Float}
use mathlib.Core.Path.{sym, ap, ◌∙◌}
use Rattle.run_rules.specs.Runner.{heavy_load}
use Rattle.run_core.proofs.Steps.{heavy_nan, heavy_above, heavy_off}
use Rattle.run_core.proofs.is_heavy.Goals as goal

pub returns-in-None : goal.returns-in-None
returns-in-None c = heavy_off _ ∙ ap (λ (g : Option Float). heavy_load g c.args.load) (sym c.in-None.is)

pub returns-then-is_nan : goal.returns-then-is_nan
returns-then-is_nan c = c.if-is_nan.true ∙ heavy_nan _ _ (sym c.is_nan.ensures.value ∙ c.if-is_nan.true) ∙ ap (λ (g : Option Float). heavy_load g c.args.load) (sym c.in-Some.is)

pub returns-else-is_nan : goal.returns-else-is_nan
returns-else-is_nan c = heavy_above _ _ (sym c.is_nan.ensures.value ∙ c.if-is_nan.false) ∙ ap (λ (g : Option Float). heavy_load g c.args.load) (sym c.in-Some.is)
