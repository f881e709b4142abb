-- `scan_texts::is_sound_bundle` meets its contract.
use Rattle.scan_bundle.proofs.Laws.{sound_is}
use lib.ListN.{length-replicate}
use native.Mathlib.Omega.{arith}
use mathlib.Core.Path.{sym, ◌∙◌}
use Prim.Native.Nat.{ℕ}
use Rattle.scan_texts.proofs.is_sound_bundle.Goals as goal

pub slice_bounds-index-end : goal.slice_bounds-index-end
slice_bounds-index-end c = sym (length-replicate {A = ℕ} 64 0)

pub index-requires : goal.index-requires
index-requires c = omega (arith, length-replicate {A = ℕ} 64 0)

pub returns : goal.returns
returns c = c.is_some.ensures ∙ sound_is c.index.ensures
