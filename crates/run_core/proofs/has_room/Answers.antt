-- `run_core::has_room` meets its contract.
use Rattle.run_core.proofs.Steps.{room_free, room_none, room_some}
use Rattle.run_core.proofs.has_room.Goals as goal

pub returns-then-p-eq0 : goal.returns-then-p-eq0
returns-then-p-eq0 c = room_free _ _ c.if-p-eq0.true

pub returns-then-room-p : goal.returns-then-room-p
returns-then-room-p c = room_none _ _ c.if-p-eq0.false c.if-room-p.true

pub returns : goal.returns
returns c = room_some _ _ c.if-p-eq0.false
