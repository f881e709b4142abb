-- Two lists of bytes compared as far as the shorter one goes.
use Rattle.std.specs.Prelude.{ℕ, min, List, ◌++◌, ◌≡◌, ltb, length, take}
use Rattle.lists.specs.Tests.{if_b}
use Rattle.lists.specs.Order.{order_bytes}
use Rattle.std.specs.declared.cmp.Ordering as order
use Rattle.expand_order.specs.declared.Ahead.{Ahead}
use Rattle.expand_order.specs.declared.Ahead.TheVariants.{Less, Greater, Both}

-- p and q begin with the same n bytes, and one of them has no more.
pub record Agree (p q : List ℕ) (n : ℕ) : Type 0 where
  pub count : n ≡ min (length p) (length q)
  pub same : take n p ≡ take n q

-- what the front of p and q says of all lists that they begin
unfoldable pub FrontsCompared : List ℕ → List ℕ → Ahead → Type 0
FrontsCompared p q Less = (s t : List ℕ) → order_bytes (p ++ s) (q ++ t) ≡ order.TheVariants.Less
FrontsCompared p q Greater = (s t : List ℕ) → order_bytes (p ++ s) (q ++ t) ≡ order.TheVariants.Greater
FrontsCompared p q (Both n) = Agree p q n

-- the order of two lists by their lengths, of which one is empty
unfoldable pub order_lengths : ℕ → ℕ → order.Ordering
order_lengths i j = if_b (ltb i j) (λ _. order.TheVariants.Less) (λ _. if_b (ltb j i) (λ _. order.TheVariants.Greater) (λ _. order.TheVariants.Equal))
