-- `run_core::is_ready` meets its contract.
use mathlib.Core.Path.{◌∙◌}
use Rattle.run_core.proofs.Steps.{ready_late, ready_blocked, ready_room}
use Rattle.run_core.proofs.is_ready.Goals as goal

pub returns-then-j-ne0 : goal.returns-then-j-ne0
returns-then-j-ne0 c = ready_late _ _ _ c.if-j-ne0.true

pub is_clear-requires : goal.is_clear-requires
is_clear-requires c = tt

pub returns-then-not-is_clear : goal.returns-then-not-is_clear
returns-then-not-is_clear c = ready_blocked _ _ _ c.if-j-ne0.false c.is_clear.ensures (c.if-not-is_clear.true)

pub has_room-requires : goal.has_room-requires
has_room-requires c = tt

pub returns : goal.returns
returns c = c.has_room.ensures ∙ ready_room _ _ _ c.if-j-ne0.false c.is_clear.ensures (c.if-not-is_clear.false)
