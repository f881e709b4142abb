-- `run_core::look_at` meets its contract.
use mathlib.Core.Path.{◌∙◌}
use Rattle.run_core.proofs.Steps.{look_taken, look_left}
use Rattle.run_core.proofs.look_at.Goals as goal

pub returns-then-is_ready : goal.returns-then-is_ready
returns-then-is_ready c = c.lower_start.ensures ∙ look_taken _ _ _ _ c.is_ready.ensures c.if-is_ready.true

pub returns : goal.returns
returns c = look_left _ _ _ _ c.is_ready.ensures c.if-is_ready.false
