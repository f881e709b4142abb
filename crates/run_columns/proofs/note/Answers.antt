-- `run_columns::note` meets its contract.
use mathlib.Core.Path.{sym, ◌∙◌}
use Rattle.run_columns.specs.Columns.{note_at}
use Rattle.run_columns.proofs.Tables.{row_room}
use Rattle.run_columns.proofs.note.Goals as goal

pub store-requires : goal.store-requires
store-requires c = row_room _ _ _ (sym c.are_enough.ensures ∙ c.if-are_enough.true) c.requires

pub returns-then-are_enough : goal.returns-then-are_enough
unfolding note_at
returns-then-are_enough c = rw (sym c.are_enough.ensures ∙ c.if-are_enough.true) c.store.ensures

pub returns-else-are_enough : goal.returns-else-are_enough
unfolding note_at
returns-else-are_enough c = rw (sym c.are_enough.ensures ∙ c.if-are_enough.false)
