-- `hold_bindings::push_row` meets its contract.
use Prim.Native.Nat.{◌+◌, ◌≤◌}
use mathlib.Core.Path.{refl}
use native.Mathlib.Omega.{arith}
use lib.ListN.{length}
use Rattle.hold_bindings.proofs.Entries.{room_fits, pushed}
use Rattle.hold_bindings.specs.Held.{max_texts}
use Rattle.hold_bindings.proofs.push_row.Goals as goal

pub overflow_add-mid : goal.overflow_add-mid
overflow_add-mid c = let fits : c.start-from.result + length c.args.name.now + length c.args.value.now ≤ max_texts = omega (arith, c.start-from.ensures, room_fits _ c.requires.room _ _ refl refl) in
    omega (arith, fits)

pub overflow_add-to : goal.overflow_add-to
overflow_add-to c = let fits : c.start-from.result + length c.args.name.now + length c.args.value.now ≤ max_texts = omega (arith, c.start-from.ensures, room_fits _ c.requires.room _ _ refl refl) in
    omega (arith, fits)

pub copy_at-requires : goal.copy_at-requires
copy_at-requires c = let fits : c.start-from.result + length c.args.name.now + length c.args.value.now ≤ max_texts = omega (arith, c.start-from.ensures, room_fits _ c.requires.room _ _ refl refl) in
    omega (arith, fits, c.requires.room.held)

pub copy_at-requires-2 : goal.copy_at-requires-2
copy_at-requires-2 c =
    let fits : c.start-from.result + length c.args.name.now + length c.args.value.now ≤ max_texts = omega (arith, c.start-from.ensures, room_fits _ c.requires.room _ _ refl refl) in
    omega (arith, fits, c.requires.room.held, c.copy_at.auto)

pub put_row-requires : goal.put_row-requires
put_row-requires c =
    let fits : c.start-from.result + length c.args.name.now + length c.args.value.now ≤ max_texts = omega (arith, c.start-from.ensures, room_fits _ c.requires.room _ _ refl refl) in
    omega (arith, fits, c.requires.room)

pub returns : goal.returns
returns c =
    rw (c.put_row.ensures, c.copy_at-2.ensures, c.copy_at.ensures, c.start-from.ensures)
    (pushed _ c.requires _ _ refl refl)
