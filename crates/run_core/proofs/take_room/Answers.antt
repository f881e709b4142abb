-- `run_core::take_room` meets its contract.
use Rattle.run_core.proofs.Steps.{room_same, room_less, room_empty, room_past}
use Rattle.run_core.proofs.take_room.Goals as goal
use Rattle.run_core.proofs.take_room.Goals.{else-p-room-via-then-p-room+else-room-p-gt0, else-p-room-via-else-p-room}

pub returns-then-j-ne1 : goal.returns-then-j-ne1
returns-then-j-ne1 c = room_same _ _ c.if-j-ne1.true

pub returns-then-room-p-gt0 : goal.returns-then-room-p-gt0
returns-then-room-p-gt0 c = room_less _ _ c.if-j-ne1.false

pub returns-else-p-room : goal.returns-else-p-room
returns-else-p-room c =
    elim c.else-p-room.branch [
      | else-p-room-via-then-p-room+else-room-p-gt0 w ↦ room_empty _ _ c.if-j-ne1.false w.if-room-p-gt0.false
      | else-p-room-via-else-p-room w ↦ room_past _ _ c.if-j-ne1.false w.if-p-room.false
    ]
