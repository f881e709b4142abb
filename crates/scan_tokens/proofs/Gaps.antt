-- The gap between tokens, a byte or a join at a time.
use Prim.Native.Nat.{ℕ, ◌+◌, ◌≤◌, ◌<◌}
use mathlib.Core.List.{List, [], ◌∷◌}
use mathlib.Core.Path.{◌≡◌, refl}
use native.Mathlib.Omega.{arith}
use borrow.Author.Tests.{ne_eqb}
use lib.ListN.{length, get_or}
use Rattle.lists.specs.Runs.{Reads}
use Rattle.spec.specs.Bytes.{newline, space, dollar}
use Rattle.spec.specs.Forms.{gap}
use Rattle.scan_tokens.proofs.Places.{Going, going_on, going_stop, at_cons, at_end}

-- ---- one turn of the gap

pub gap_space : (s : List ℕ) → gap (space ∷ s) ≡ gap s
unfolding gap
gap_space [] = refl
gap_space (b ∷ s) = refl

pub gap_join : (s : List ℕ) → gap (dollar ∷ newline ∷ s) ≡ gap s
unfolding gap
gap_join s = refl

pub gap_other : (b : ℕ) (s : List ℕ) → (b ≡ space → ⊥) → (b ≡ dollar → ⊥) → gap (b ∷ s) ≡ b ∷ s
unfolding gap
gap_other b [] h k = rw (ne_eqb b space h)
gap_other b (c ∷ s) h k = rw (ne_eqb b space h, ne_eqb b dollar k)

pub gap_dollar : (b : ℕ) (s : List ℕ) → (b ≡ newline → ⊥) → gap (dollar ∷ b ∷ s) ≡ dollar ∷ b ∷ s
unfolding gap
gap_dollar b s h = rw (ne_eqb b newline h)

pub gap_last : gap (dollar ∷ []) ≡ dollar ∷ []
unfolding gap
gap_last = refl

-- ---- at a place of a slice

module _ {s : List ℕ} {i k : ℕ} (a : Going gap s i k) where
  pub skip_end : length s ≤ k → Reads gap s i k
  unfolding gap
  skip_end h = going_stop a (rw (at_end s k h))

  module _ (h : k < length s) where
    pub skip_space : get_or s k 0 ≡ space → Going gap s i (k + 1)
    skip_space e = going_on a (omega arith) (omega arith) (rw (at_cons s k h, e) (gap_space _))

    pub skip_other : (get_or s k 0 ≡ space → ⊥) → (get_or s k 0 ≡ dollar → ⊥) → Reads gap s i k
    skip_other p q = going_stop a (rw (at_cons s k h) (gap_other _ _ p q))

    module _ (e : get_or s k 0 ≡ dollar) where
      pub skip_last : length s ≤ k + 1 → Reads gap s i k
      skip_last l = going_stop a (rw (at_cons s k h, e, at_end s (k + 1) l) gap_last)

      module _ (l : k + 1 < length s) where
        pub skip_dollar : (get_or s (k + 1) 0 ≡ newline → ⊥) → Reads gap s i k
        skip_dollar p = going_stop a (rw (at_cons s k h, e, at_cons s (k + 1) l) (gap_dollar _ _ p))

        pub skip_join : get_or s (k + 1) 0 ≡ newline → Going gap s i (k + 2)
        skip_join p =
            let z : k + 1 + 1 ≡ k + 2 = omega arith in
            going_on a (omega arith) (omega arith) (rw (at_cons s k h, e, at_cons s (k + 1) l, p, z) (gap_join _))
