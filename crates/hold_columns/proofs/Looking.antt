-- A loop that looks at a list from the front: what f says of the list is what it says of what is left of it.
use Prim.Native.Nat.{ℕ, suc, ◌+◌, ◌≤◌, ◌<◌}
use native.Mathlib.Numerals.{add-one}
use native.Mathlib.Omega.{arith}
use mathlib.Core.Path.{◌≡◌, refl, sym, ap, ◌∙◌}
use mathlib.Core.List.{List, [], ◌∷◌}
use lib.ListN.{length, get_or, drop, drop_of_length-le}
use lib.Seq.{drop-cons}

pub record Looking {A : Type 0} (f : List ℕ → A) (l : List ℕ) (i : ℕ) : Type 0 where
  pub within : i ≤ length l
  pub rest : f l ≡ f (drop i l)

pub look_begin : {A : Type 0} (f : List ℕ → A) {l : List ℕ} → Looking f l 0
look_begin f = record { within = omega arith; rest = refl }

module _ {A : Type 0} {f : List ℕ → A} {l : List ℕ} {i : ℕ} (r : Looking f l i) where
  look_next : i < length l → f l ≡ f (get_or l i 0 ∷ drop (suc i) l)
  look_next b = r.rest ∙ ap f (drop-cons l i 0 b)

  pub look_more : i < length l → f (get_or l i 0 ∷ drop (suc i) l) ≡ f (drop (suc i) l) → Looking f l (i + 1)
  look_more b e = record { within = omega arith; rest = rw (add-one i) (look_next b ∙ e) }

  pub look_found : {a : A} → i < length l → f (get_or l i 0 ∷ drop (suc i) l) ≡ a → a ≡ f l
  look_found b e = sym (look_next b ∙ e)

  pub look_end : {a : A} → length l ≤ i → f [] ≡ a → a ≡ f l
  look_end b e = sym (r.rest ∙ ap f (drop_of_length-le l {i = i} b) ∙ e)
