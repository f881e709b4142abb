-- `hold_bindings::enter_scope` meets its contract.
use native.Mathlib.Omega.{arith}
use Rattle.hold_bindings.proofs.Marks.{mark_room, free_kept, mark_held}
use Rattle.hold_bindings.proofs.enter_scope.Goals as goal

pub add_entry-requires : goal.add_entry-requires
add_entry-requires c = record { log = c.requires.log; room = mark_room c.requires.held c.requires.few (omega arith) }

pub put_scope-requires : goal.put_scope-requires
put_scope-requires c = free_kept c.requires c.add_entry.ensures

pub returns : goal.returns
returns c = λ log h. mark_held (mark_room h c.requires.few (omega arith)) c.add_entry.ensures c.put_scope.ensures
