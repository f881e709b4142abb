-- The order of two lists of bytes as one answer of three.
use Rattle.std.specs.Prelude.{ℕ, true, false, List, ◌∷◌, ◌≡◌}
use Rattle.std.specs.Ordering.{is_eq, is_lt}
use Rattle.std.proofs.Common.{sym}
use Rattle.lists.specs.Bytes.{eq_bytes, eq_eq_bytes, ne_eq_bytes, less_bytes, less_same, less_total, less_asym, less_irrefl, less_ne}
use Rattle.lists.specs.Tests.{if_b, split}
use Rattle.std.specs.declared.cmp.Ordering.{Ordering}
use Rattle.std.specs.declared.cmp.Ordering.TheVariants.{Less, Equal, Greater}

unfoldable pub order_bytes : List ℕ → List ℕ → Ordering
order_bytes s t = if_b (less_bytes s t) (λ _. Less) (λ _. if_b (less_bytes t s) (λ _. Greater) (λ _. Equal))

-- What each answer says, and which answer there is.
module _ (s t : List ℕ) where
  pub less_order : less_bytes s t ≡ true → order_bytes s t ≡ Less
  unfolding order_bytes
  less_order h = rw h

  pub greater_order : less_bytes t s ≡ true → order_bytes s t ≡ Greater
  unfolding order_bytes
  greater_order h = rw (less_asym t s h, h)

  pub equal_order : s ≡ t → order_bytes s t ≡ Equal
  unfolding order_bytes
  equal_order e = rw (e, less_irrefl t)

  pub order_less : order_bytes s t ≡ Less → less_bytes s t ≡ true
  order_less h =
      split (less_bytes s t) (λ (p : less_bytes s t ≡ true). p)
      (λ (p : less_bytes s t ≡ false).
      split (less_bytes t s)
      (λ (q : less_bytes t s ≡ true). let e : order_bytes s t ≡ Greater = greater_order q in cc)
      (λ (q : less_bytes t s ≡ false). let e : order_bytes s t ≡ Equal = equal_order (less_total s t p q) in cc))

  pub order_greater : order_bytes s t ≡ Greater → less_bytes t s ≡ true
  order_greater h =
      split (less_bytes t s) (λ (p : less_bytes t s ≡ true). p)
      (λ (p : less_bytes t s ≡ false).
      split (less_bytes s t)
      (λ (q : less_bytes s t ≡ true). let e : order_bytes s t ≡ Less = less_order q in cc)
      (λ (q : less_bytes s t ≡ false). let e : order_bytes s t ≡ Equal = equal_order (less_total s t q p) in cc))

  pub order_equal : order_bytes s t ≡ Equal → s ≡ t
  order_equal h =
      split (less_bytes s t) (λ (p : less_bytes s t ≡ true). let e : order_bytes s t ≡ Less = less_order p in cc)
      (λ (p : less_bytes s t ≡ false).
      split (less_bytes t s)
      (λ (q : less_bytes t s ≡ true). let e : order_bytes s t ≡ Greater = greater_order q in cc)
      (λ (q : less_bytes t s ≡ false). less_total s t p q))

  -- The tests of the answer are those of the lists.
  pub order_is_lt : is_lt (order_bytes s t) ≡ less_bytes s t
  unfolding order_bytes
  order_is_lt =
      split (less_bytes s t) (λ (p : less_bytes s t ≡ true). rw p)
      (λ (p : less_bytes s t ≡ false).
      split (less_bytes t s) (λ (q : less_bytes t s ≡ true). rw (p, q)) (λ (q : less_bytes t s ≡ false). rw (p, q)))

  pub order_is_eq : is_eq (order_bytes s t) ≡ eq_bytes s t
  unfolding order_bytes
  order_is_eq =
      split (less_bytes s t) (λ (p : less_bytes s t ≡ true). rw (p, ne_eq_bytes s t (less_ne p)))
      (λ (p : less_bytes s t ≡ false).
      split (less_bytes t s)
      (λ (q : less_bytes t s ≡ true). rw (p, q, ne_eq_bytes s t (λ (e : s ≡ t). less_ne q (sym e))))
      (λ (q : less_bytes t s ≡ false). rw (p, q, eq_eq_bytes (less_total s t p q))))

-- Equal first bytes decide nothing.
pub order_same : (x y : ℕ) (s t : List ℕ) → x ≡ y → order_bytes (x ∷ s) (y ∷ t) ≡ order_bytes s t
unfolding order_bytes
order_same x y s t e = rw (less_same x y s t e, less_same y x t s (sym e))
