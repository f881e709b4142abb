-- `hold_bindings::back_to` meets its contract.
use native.Mathlib.Omega.{arith}
use Rattle.hold_bindings.proofs.Marks.{mark_room, back_kept, mark_held}
use Rattle.hold_bindings.proofs.back_to.Goals as goal

pub add_entry-requires : goal.add_entry-requires
add_entry-requires c = record { log = c.requires.scope.log; room = mark_room c.requires.scope.held c.requires.few (omega arith) }

pub returns : goal.returns
returns c = λ log h. mark_held (mark_room h c.requires.few (omega arith)) c.add_entry.ensures (back_kept c.requires c.add_entry.ensures)
