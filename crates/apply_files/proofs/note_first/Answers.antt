-- `apply_files::note_first` meets its contract.
use mathlib.Core.List.{List}
use mathlib.Core.Path.{refl, ◌∙◌, ap}
use Prim.Native.Nat.{ℕ, ◌+◌}
use lib.ListN.{set}
use Rattle.hold_reading.specs.Held.{made_start}
use Rattle.apply_files.proofs.note_first.Goals as goal

pub returns : goal.returns
returns c = record { stored = (let a = c.args in c.put-2.ensures ∙ ap (λ (g : List ℕ). set g (made_start + a.c.files) 0) c.put.ensures); counted = refl }
