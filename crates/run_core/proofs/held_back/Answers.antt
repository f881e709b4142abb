-- `run_core::held_back` meets its contract.
use mathlib.Core.Path.{◌∙◌}
use Rattle.run_core.proofs.Steps.{held_none, held_some}
use Rattle.run_core.proofs.held_back.Goals as goal

pub returns-then-r-eq0 : goal.returns-then-r-eq0
returns-then-r-eq0 c = held_none _ _ c.if-r-eq0.true

pub is_heavy-requires : goal.is_heavy-requires
is_heavy-requires c = tt

pub returns : goal.returns
returns c = c.is_heavy.ensures ∙ held_some _ _ c.if-r-eq0.false
