-- Bytes written over a buffer as far as they fit, and one part after another.
use Prim.Native.Nat.{ℕ, ◌+◌, ◌-◌, ◌≤◌, ◌<◌, min}
use mathlib.Core.List.{List, [], ◌++◌, append-nil}
use mathlib.Core.Path.{◌≡◌, sym, ◌∙◌, ap}
use native.Mathlib.Decide.{dec_lt}
use native.Mathlib.Omega.{arith}
use lib.ListN.{length, take, drop, length-append, length-take, length-drop, drop_of_length-le}
use lib.Seq.{length-take-le, take-nil, take_all, take-take, take-append-le, take-append_seam, take-append-add, drop-append-add, drop-drop, paste}
use Rattle.expand_dollars.specs.Written.{laid_over, laid_at}

-- ---- from a place on

module _ (d : List ℕ) (at : ℕ) (s : List ℕ) where
  pub length_laid_at : length (laid_at d at s) ≡ length d
  unfolding laid_at
  length_laid_at = simp (length-append, length-take, length-drop) (omega arith)

  pub laid_past : length d ≤ at → d ≡ laid_at d at s
  unfolding laid_at
  laid_past h =
      let z : length d - at ≡ 0 = omega arith in
      sym (rw (take_all at d h, z, drop_of_length-le d {i = at + length s} (omega arith), append-nil d) (append-nil d))

  pub laid_whole : length s ≤ length d - at → paste d at s (length s) ≡ laid_at d at s
  unfolding laid_at
  laid_whole h = rw (take_all (length d - at) s h, take_all (length s) s (omega arith))

  pub laid_part : at < length d → length d - at < length s
      → paste d at (take (length d - at) s) (length (take (length d - at) s)) ≡ laid_at d at s
  unfolding laid_at
  laid_part h k =
      let n : length (take (length d - at) s) ≡ length d - at = length-take-le (length d - at) s (omega arith) in
      rw (n, take-take (length d - at) (length d - at) s (omega arith), drop_of_length-le d {i = at + (length d - at)} (omega arith), drop_of_length-le d {i = at + length s} (omega arith))

  pub laid_least : at < length d → {n : ℕ} → n ≡ min (length s) (length d - at) → paste d at (take n s) (length (take n s)) ≡ laid_at d at s
  laid_least h {n} e = elim (dec_lt (length d - at) (length s)) [
    | yes k ↦ (let z : n ≡ length d - at = omega (arith, e) in rw z (laid_part h k))
    | no k ↦ (let z : n ≡ length s = omega (arith, e) in rw (z, take_all (length s) s (omega arith)) (laid_whole (omega arith)))
  ]

-- ---- one part after another

pub laid_none : (d : List ℕ) → d ≡ laid_over d []
unfolding laid_over
laid_none d = rw (take-nil {A = ℕ} (length d))

pub length_laid : (d s : List ℕ) → length (laid_over d s) ≡ length d
unfolding laid_over
length_laid d s = simp (length-append, length-take, length-drop) (omega arith)

module _ (d p s : List ℕ) where
  laid_full : length d ≤ length p → laid_at (laid_over d p) (length p) s ≡ laid_over d (p ++ s)
  unfolding laid_over
  laid_full h =
      sym (laid_past (laid_over d p) (length p) s (omega (arith, length_laid d p)))
      ∙ rw (take-append-le (length d) p s h, drop_of_length-le d {i = length p} h, drop_of_length-le d {i = length (p ++ s)} (omega (arith, length-append p s)))

  laid_fits : length p < length d → laid_at (laid_over d p) (length p) s ≡ laid_over d (p ++ s)
  unfolding laid_over laid_at
  laid_fits h =
      let n : length (p ++ drop (length p) d) - length p ≡ length d - length p = simp (length-append, length-drop) (omega arith) in
      let z : length d ≡ length p + (length d - length p) = omega arith in
      let r : take (length d) (p ++ s) ≡ p ++ take (length d - length p) s =
      ap (λ (k : ℕ). take k (p ++ s)) z ∙ take-append-add p s (length d - length p) in
      rw (take_all (length d) p (omega arith), take-append_seam p (drop (length p) d), n, drop-append-add p (drop (length p) d) (length s), drop-drop (length s) (length p) d, r, length-append p s)

  pub laid_on : laid_at (laid_over d p) (length p) s ≡ laid_over d (p ++ s)
  laid_on = elim (dec_lt (length p) (length d)) [ yes h ↦ laid_fits h | no h ↦ laid_full (omega arith) ]
