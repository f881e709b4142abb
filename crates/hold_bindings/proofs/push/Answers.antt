-- `hold_bindings::push` meets its contract.
use Rattle.hold_bindings.proofs.Entries.{entry_row, entry_held}
use Rattle.hold_bindings.proofs.push.Goals as goal

pub add_entry-requires : goal.add_entry-requires
add_entry-requires c = record { log = c.requires.log; room = entry_row c.requires.room }

pub returns : goal.returns
returns c = λ log r. entry_held r c.add_entry.ensures
