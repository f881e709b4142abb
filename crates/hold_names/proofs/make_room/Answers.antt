-- `hold_names::make_room` meets its contract.
use native.Mathlib.Omega.{arith}
use Rattle.hold_names.proofs.Lifting.{room_kept, room_made}
use Rattle.hold_names.proofs.make_room.Goals as goal

pub returns-then-n-place : goal.returns-then-n-place
returns-then-n-place c = room_kept _ _ (omega (arith, c.if-n-place.true))

pub returns : goal.returns
returns c = room_made _ _ c.lift.ensures (omega (arith, c.by_eights.ensures)) (omega (arith, c.by_eights.ensures))
