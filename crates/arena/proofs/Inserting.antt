-- A list with one entry put in: what stands where, and what holds of each entry and of each two.
use Prim.Native.Nat.{ℕ, zero, suc, ◌+◌, ◌-◌, ◌≤◌, ◌<◌}
use mathlib.Core.List.{List, [], ◌∷◌, map}
use mathlib.Core.Path.{◌≡◌, refl, ◌∙◌, ap}
use native.Mathlib.Decide.{dec_lt}
use native.Mathlib.Omega.{arith}
use lib.ListN.{length, take, drop, get_or, length-append, length-take, length-drop, get_or-append}
use lib.Seq.{get_or_at, get_or-append-add, get_or-take, get_or-drop, length-take-le}
use Rattle.arena.specs.Inserted.{inserted}

module _ {A : Type 0} (l : List A) (p : ℕ) (x d : A) (h : p ≤ length l) where
  before_inserted : (i : ℕ) → i < p → get_or (inserted l p x) i d ≡ get_or l i d
  before_inserted i a = get_or-append (take p l) (x ∷ drop p l) d i (omega (arith, length-take-le p l h)) ∙ get_or-take p l i d a

  at_inserted : get_or (inserted l p x) p d ≡ x
  at_inserted = get_or_at (take p l) x (drop p l) d p (length-take-le p l h)

  after_inserted : (i : ℕ) → p < i → get_or (inserted l p x) i d ≡ get_or l (i - 1) d
  after_inserted i a =
      let z : i ≡ length (take p l) + suc (i - 1 - p) = omega (arith, length-take-le p l h) in
      let w : p + (i - 1 - p) ≡ i - 1 = omega arith in
      ap (λ (k : ℕ). get_or (inserted l p x) k d) z ∙ get_or-append-add (take p l) (x ∷ drop p l) (suc (i - 1 - p)) d ∙ get_or-drop p l (i - 1 - p) d ∙ ap (λ (k : ℕ). get_or l k d) w

  pub length_inserted : length (inserted l p x) ≡ suc (length l)
  length_inserted = simp (length-append, length-take, length-drop) (omega arith)

  -- what holds of x and of each holds of each
  pub each_inserted : (P : A → Type 0) → P x → ((k : ℕ) → k < length l → P (get_or l k d)) → (k : ℕ) → k < length (inserted l p x) → P (get_or (inserted l p x) k d)
  each_inserted P a f k b =
      elim (dec_lt k p) [
        | yes y ↦ rw (before_inserted k y) (f k (omega arith))
        | no y ↦ elim (dec_lt p k) [
          | yes z ↦ rw (after_inserted k z) (f (k - 1) (omega (arith, length_inserted)))
          | no z ↦ (let e : k ≡ p = omega arith in rw (e, at_inserted) a)
        ]
      ]

  -- what holds of each and x before place p, of x and each from there on, and of each two, holds of each two
  pub pairs_inserted : (R : A → A → Type 0)
      → ((i j : ℕ) → i < j → j < length l → R (get_or l i d) (get_or l j d))
      → ((i : ℕ) → i < p → R (get_or l i d) x)
      → ((i : ℕ) → p ≤ i → i < length l → R x (get_or l i d))
      → (i j : ℕ) → i < j → j < length (inserted l p x) → R (get_or (inserted l p x) i d) (get_or (inserted l p x) j d)
  pairs_inserted R r b f i j a k =
      let w = length_inserted in
      elim (dec_lt j p) [
        | yes y ↦ rw (before_inserted i (omega arith), before_inserted j y) (r i j a (omega arith))
        | no y ↦ elim (dec_lt p j) [
          | no z ↦ (let e : j ≡ p = omega arith in rw (e, at_inserted, before_inserted i (omega arith)) (b i (omega arith)))
          | yes z ↦ elim (dec_lt i p) [
            | yes v ↦ rw (before_inserted i v, after_inserted j z) (r i (j - 1) (omega arith) (omega arith))
            | no v ↦ elim (dec_lt p i) [
              | yes u ↦ rw (after_inserted i u, after_inserted j z) (r (i - 1) (j - 1) (omega arith) (omega arith))
              | no u ↦ (let e : i ≡ p = omega arith in rw (e, at_inserted, after_inserted j z) (f (j - 1) (omega arith) (omega arith)))
            ]
          ]
        ]
      ]

  -- x is there, and so is each that was
  pub has_inserted : (i : ℕ) × (i < length (inserted l p x)) × (get_or (inserted l p x) i d ≡ x)
  has_inserted = (p, omega (arith, length_inserted), at_inserted)

  pub keeps_inserted : (k : ℕ) → k < length l → (i : ℕ) × (i < length (inserted l p x)) × (get_or (inserted l p x) i d ≡ get_or l k d)
  keeps_inserted k b =
      elim (dec_lt k p) [
        | yes y ↦ (k, omega (arith, length_inserted), before_inserted k y)
        | no y ↦ (
          k + 1,
          omega (arith, length_inserted),
          (let z : k + 1 - 1 ≡ k = omega arith in after_inserted (k + 1) (omega arith) ∙ ap (λ (n : ℕ). get_or l n d) z),
        )
      ]

-- what is made of each entry is put in likewise
pub map_inserted : {A B : Type 0} (f : A → B) (l : List A) (p : ℕ) (x : A) → map f (inserted l p x) ≡ inserted (map f l) p (f x)
map_inserted f [] zero x = refl
map_inserted f [] (suc p) x = refl
map_inserted f (y ∷ l) zero x = refl
map_inserted f (y ∷ l) (suc p) x = ap (λ (r : List _). f y ∷ r) (map_inserted f l p x)
