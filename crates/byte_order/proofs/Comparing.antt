-- A turn of a loop that compares byte by byte: what it keeps of its state, and what the ways out of it give.
use Prim.Native.Nat.{ℕ, suc, ◌+◌, ◌≤◌, ◌<◌, min}
use mathlib.Core.Bool.{true, false}
use mathlib.Core.List.{List}
use mathlib.Core.Path.{◌≡◌, refl, sym, ◌∙◌, ap}
use native.Mathlib.Numerals.{add-one}
use native.Mathlib.Omega.{arith}
use borrow.Author.Tests.{eq-eqb, ne_eqb}
use lib.ListN.{length, drop, get_or, drop_of_length-le}
use lib.Seq.{drop-cons}
use Rattle.lists.specs.Bytes.{eq_bytes, less_bytes, ne_eq_bytes, less_lower}
use Rattle.lists.specs.Order.{order_bytes, less_order, greater_order, equal_order, order_same}
use Rattle.std.specs.Cmp.{ranked}
use Rattle.std.specs.Ordering.{nat_cmp}
use Rattle.std.specs.declared.cmp.Ordering.{Ordering}
use Rattle.std.specs.declared.cmp.Ordering.TheVariants.{Less, Equal, Greater}

-- ---- two lists side by side, of which n places are compared

-- What f says of the two is what it says of what is left of them.
pub record Comparing {A : Type 0} (f : List ℕ → List ℕ → A) (s t : List ℕ) (n i : ℕ) : Type 0 where
  pub within : i ≤ n
  pub rest : f s t ≡ f (drop i s) (drop i t)

pub compare_begin : {A : Type 0} {f : List ℕ → List ℕ → A} {s t : List ℕ} {n : ℕ} → Comparing f s t n 0
compare_begin = record { within = omega arith; rest = refl }

pub equal_length : (s t : List ℕ) → (length s ≡ length t → ⊥) → false ≡ eq_bytes s t
equal_length s t h = sym (ne_eq_bytes s t (λ (e : s ≡ t). h (ap length e)))

module _ {s t : List ℕ} {n i : ℕ} (r : Comparing eq_bytes s t n i) where
  pub equal_end : length s ≤ i → length t ≤ i → true ≡ eq_bytes s t
  unfolding eq_bytes
  equal_end hs ht = sym (r.rest ∙ rw (drop_of_length-le s {i = i} hs, drop_of_length-le t {i = i} ht))

  module _ (hs : i < length s) (ht : i < length t) where
    pub equal_differ : (get_or s i 0 ≡ get_or t i 0 → ⊥) → false ≡ eq_bytes s t
    unfolding eq_bytes
    equal_differ h = sym (r.rest ∙ rw (drop-cons s i 0 hs, drop-cons t i 0 ht, ne_eqb _ _ h))

    pub equal_more : i < n → get_or s i 0 ≡ get_or t i 0 → Comparing eq_bytes s t n (i + 1)
    unfolding eq_bytes
    equal_more h e =
        record {
          within = omega arith;
          rest = r.rest ∙ rw (add-one i, drop-cons s i 0 hs, drop-cons t i 0 ht, eq-eqb _ _ e);
        }

module _ {s t : List ℕ} {n i : ℕ} (r : Comparing order_bytes s t n i) where
  module _ (hs : i < length s) (ht : i < length t) where
    order_lower : get_or s i 0 < get_or t i 0 → Less ≡ order_bytes s t
    order_lower h =
        sym
        (r.rest
        ∙ rw (drop-cons s i 0 hs, drop-cons t i 0 ht) (less_order _ _ (less_lower _ _ (drop (suc i) s) (drop (suc i) t) h)))

    order_higher : get_or t i 0 < get_or s i 0 → Greater ≡ order_bytes s t
    order_higher h =
        sym
        (r.rest
        ∙ rw (drop-cons s i 0 hs, drop-cons t i 0 ht) (greater_order _ _ (less_lower _ _ (drop (suc i) t) (drop (suc i) s) h)))

    pub order_differs : (get_or s i 0 ≡ get_or t i 0 → ⊥) → (o : Ordering) → o ≡ nat_cmp (get_or s i 0) (get_or t i 0) → o ≡ order_bytes s t
    order_differs h Less e = order_lower (ranked _ _ Less e)
    order_differs h Equal e = absurd (h (ranked _ _ Equal e))
    order_differs h Greater e = order_higher (ranked _ _ Greater e)

    pub order_more : i < n → get_or s i 0 ≡ get_or t i 0 → Comparing order_bytes s t n (i + 1)
    order_more h e =
        record {
          within = omega arith;
          rest = r.rest ∙ rw (add-one i, drop-cons s i 0 hs, drop-cons t i 0 ht) (order_same _ _ _ _ e);
        }

  -- One of the two is at its end.
  order_shorter : length s ≤ i → i < length t → Less ≡ order_bytes s t
  unfolding less_bytes
  order_shorter hs ht =
      sym (r.rest ∙ rw (drop_of_length-le s {i = i} hs, drop-cons t i 0 ht) (less_order _ _ refl))

  order_longer : length t ≤ i → i < length s → Greater ≡ order_bytes s t
  unfolding less_bytes
  order_longer ht hs =
      sym (r.rest ∙ rw (drop_of_length-le t {i = i} ht, drop-cons s i 0 hs) (greater_order _ _ refl))

  order_end : length s ≤ i → length t ≤ i → Equal ≡ order_bytes s t
  order_end hs ht =
      sym (r.rest ∙ rw (drop_of_length-le s {i = i} hs, drop_of_length-le t {i = i} ht) (equal_order _ _ refl))

  -- The shorter is at its end: the lengths decide.
  pub order_lengths : n ≡ min (length s) (length t) → n ≤ i → (o : Ordering) → o ≡ nat_cmp (length s) (length t) → o ≡ order_bytes s t
  order_lengths h k Less e =
      let l : length s < length t = ranked _ _ Less e in
      order_shorter (omega (arith, r.within)) (omega (arith, r.within))
  order_lengths h k Equal e =
      let l : length s ≡ length t = ranked _ _ Equal e in
      order_end (omega (arith, r.within)) (omega (arith, r.within))
  order_lengths h k Greater e =
      let l : length t < length s = ranked _ _ Greater e in
      order_longer (omega (arith, r.within)) (omega (arith, r.within))
