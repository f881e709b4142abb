-- `ask_plan::has_sound_lists` meets its contract.
use Prim.Native.Nat.{ℕ}
use mathlib.Core.Path.{sym}
use lib.ListN.{length-replicate}
use native.Mathlib.Nat.{le_of_eq}
use Rattle.spec.specs.Limits.{max_headers}
use Rattle.ask_plan.proofs.Planned.{sound_by}
use Rattle.ask_plan.proofs.has_sound_lists.Goals as goal

pub slice_bounds-index-end : goal.slice_bounds-index-end
slice_bounds-index-end c = sym (length-replicate {A = ℕ} max_headers 0)

pub index-requires : goal.index-requires
index-requires c = le_of_eq (sym (length-replicate {A = ℕ} max_headers 0))

pub returns : goal.returns
returns c = sound_by _ c.index.ensures c.is_some.ensures
