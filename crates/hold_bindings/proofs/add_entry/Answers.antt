-- `hold_bindings::add_entry` meets its contract.
use Rattle.hold_bindings.proofs.Entries.{added}
use Rattle.hold_bindings.proofs.add_entry.Goals as goal

pub returns : goal.returns
returns c = added c.requires c.place_of-p.ensures c.push_row.ensures c.insert.ensures
