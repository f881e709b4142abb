-- The makers of files, by the entries of the makers' column.
use Prim.Native.Nat.{ℕ, zero, suc, ◌≤◌, ◌<◌}
use native.Mathlib.Nat.{not-suc-le-zero, le_of_suc-le-suc}
use native.Mathlib.Omega.{arith}
use mathlib.Core.Path.{◌≡◌, refl, sym, ap}
use mathlib.Core.Logic.{inl, inr}
use mathlib.Core.List.{List, [], ◌∷◌, map}
use lib.ListN.{length, get_or}
use Rattle.lists.specs.Members.{◌∈◌, here, in_cons, in_append, in_left, in_right, not_in_nil}
use Rattle.spec.specs.Basics.{concat}
use Rattle.hold_columns.specs.Columns.{made_by, maker_in, makers_in, maker_at, FilesMade}

in_made_by : (k : ℕ) {m : ℕ} → m ∈ made_by k → k ≡ suc m
unfolding made_by
in_made_by zero h = absurd (not_in_nil h)
in_made_by (suc k) {m} h = elim (in_cons h) [ inl e ↦ ap suc (sym e) | inr i ↦ absurd (not_in_nil i) ]

pub in_maker_in : (made : List ℕ) (f : ℕ) {m : ℕ} → m ∈ maker_in made f → get_or made f 0 ≡ suc m
unfolding maker_in
in_maker_in made f h = in_made_by (get_or made f 0) h

pub maker_in_in : (made : List ℕ) (f : ℕ) {m : ℕ} → get_or made f 0 ≡ suc m → m ∈ maker_in made f
unfolding maker_in made_by
maker_in_in made f e = rw e (here refl)

pub in_makers_in : (made fs : List ℕ) {m : ℕ} → m ∈ makers_in made fs → (i : ℕ) × (i < length fs) × (maker_at made fs i ≡ suc m)
unfolding makers_in concat
in_makers_in made [] h = absurd (not_in_nil h)
in_makers_in made (f ∷ fs) h = elim (in_append (maker_in made f) h) [
  | inl a ↦ (0, omega arith, in_maker_in made f a)
  | inr b ↦ (let (i, c, e) = in_makers_in made fs b in (suc i, omega arith, e))
]

pub makers_in_in : (made fs : List ℕ) {m : ℕ} (i : ℕ) → i < length fs → maker_at made fs i ≡ suc m → m ∈ makers_in made fs
unfolding makers_in concat
makers_in_in made [] i b e = absurd (not-suc-le-zero b)
makers_in_in made (f ∷ fs) zero b e = in_left (concat (map (maker_in made) fs)) (maker_in_in made f e)
makers_in_in made (f ∷ fs) (suc i) b e = in_right (maker_in made f) (makers_in_in made fs i (le_of_suc-le-suc b) e)

pub maker_low : {n : ℕ} {fs made : List ℕ} → FilesMade n fs made → {i k : ℕ} → i < length fs → k ≡ maker_at made fs i → k ≤ n
maker_low {fs} r {i} b e = rw e (r.makers (get_or fs i 0) (r.low i b))

pub makers_small : {n : ℕ} {fs made : List ℕ} → FilesMade n fs made → (m : ℕ) → m ∈ makers_in made fs → m < n
makers_small {fs} {made} r m h = let (i, b, e) = in_makers_in made fs h in maker_low r {i = i} b (sym e)
