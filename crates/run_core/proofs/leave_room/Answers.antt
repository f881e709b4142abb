-- `run_core::leave_room` meets its contract.
use Rattle.run_core.proofs.Table.{pass_begin}
use Rattle.run_core.proofs.Steps.{room_more, room_end, room_long}
use Rattle.run_core.proofs.leave_room.Goals as goal

pub job_count-n-requires : goal.job_count-n-requires
job_count-n-requires c = tt

pub loop-i-init : goal.loop-i-init
loop-i-init c = pass_begin

pub job_at-requires : goal.job_at-requires
job_at-requires c = rw c.job_count-n.ensures at c.loop-i-test.true

pub take_room-requires : goal.take_room-requires
take_room-requires c = tt

pub loop-i-preserved : goal.loop-i-preserved
loop-i-preserved c = room_more c.loop-i.invariant c.loop-i-test.true c.job_count-n.ensures c.job_at.ensures c.take_room.ensures

pub shape_of-room : goal.shape_of-room
shape_of-room c = room_long c.loop-i.invariant

pub returns : goal.returns
returns c = room_end c.loop-i.invariant c.loop-i-test.false c.job_count-n.ensures
