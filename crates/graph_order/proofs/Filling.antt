-- A list put at the front of a lent one, with zeros after it.
use Prim.Native.Nat.{ℕ, ◌-◌, ◌≤◌}
use native.Mathlib.Omega.{arith}
use mathlib.Core.Path.{◌≡◌, ap, ◌∙◌}
use mathlib.Core.List.{List, ◌++◌, append-nil}
use lib.ListN.{length, take, drop, length-append, length-drop}
use lib.Seq.{drop-length, take-append_seam}
use Rattle.lists.specs.Fill.{zeros, zeroed}
use Rattle.spec.specs.Promises.{filled}

pub fill_end : (l lent now : List ℕ) → length l ≤ length lent → now ≡ l ++ drop (length l) lent → zeroed now (length l) (length now) ≡ filled l lent
unfolding zeroed filled
fill_end l lent now fits q =
    let long : length now ≡ length lent = ap length q ∙ simp (length-append, length-drop) (omega arith) in
    ap (λ (z : List ℕ). z ++ zeros (length now - length l) ++ drop (length now) now) (ap (take (length l)) q ∙ take-append_seam l (drop (length l) lent))
    ∙ rw (drop-length now, long, append-nil)
