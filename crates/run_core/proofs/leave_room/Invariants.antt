use Rattle.run_core.specs.Numbers.{jobs_in}
use Rattle.run_core.specs.Passes.{room_left}
use Rattle.run_core.proofs.Table.{PassedTo}
use Rattle.run_core.proofs.leave_room.Given as goal

abbrev pub invariant-loop-i : goal.invariant-loop-i
invariant-loop-i l = PassedTo room_left (jobs_in l.c) l.initial.room l.room l.i
