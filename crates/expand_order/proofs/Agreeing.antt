-- What the fronts of two lists say of the lists.
use Prim.Native.Nat.{ℕ, min, ◌<◌}
use mathlib.Core.Bool.{true}
use mathlib.Core.List.{List, [], ◌∷◌, ◌++◌, append_assoc}
use mathlib.Core.Logic.{⊎_elim}
use mathlib.Core.Path.{◌≡◌, refl, sym, ◌∙◌, ap}
use native.Mathlib.Omega.{arith}
use lib.ListN.{length, take, drop, take-append-drop}
use lib.Seq.{length-take-le}
use Rattle.lists.specs.Bytes.{less_bytes, less_same, less_lower, less_cons}
use Rattle.lists.specs.Order.{order_bytes, less_order, greater_order, order_less, order_equal, order_greater, order_same}
use Rattle.lists.specs.Tests.{differ}
use Rattle.std.specs.declared.cmp.Ordering as order
use Rattle.expand_order.specs.declared.Ahead.TheVariants.{Less, Greater, Both}
use Rattle.expand_order.specs.Ahead.{Agree, FrontsCompared}

order_behind : (p s t : List ℕ) → order_bytes (p ++ s) (p ++ t) ≡ order_bytes s t
order_behind [] s t = refl
order_behind (x ∷ p) s t = order_same x x (p ++ s) (p ++ t) refl ∙ order_behind p s t

-- a list as its front and what is behind it, with more behind
cut : (n : ℕ) (p s : List ℕ) → p ++ s ≡ take n p ++ (drop n p ++ s)
cut n p s = ap (λ (l : List ℕ). l ++ s) (sym (take-append-drop n p)) ∙ append_assoc (take n p) (drop n p) s

-- Equal fronts decide nothing.
pub order_fronts : {p q : List ℕ} {n : ℕ} → Agree p q n → (s t : List ℕ) → order_bytes (p ++ s) (q ++ t) ≡ order_bytes (drop n p ++ s) (drop n q ++ t)
order_fronts {p} {q} {n} a s t = rw (cut n p s, cut n q t, a.same) (order_behind (take n q) (drop n p ++ s) (drop n q ++ t))

-- Of two lists of one length the order stays, whatever follows them.
less_more : (u v s t : List ℕ) → length u ≡ length v → less_bytes u v ≡ true → less_bytes (u ++ s) (v ++ t) ≡ true
unfolding less_bytes
less_more [] [] s t e h = differ h refl
less_more [] (y ∷ v) s t e h = absurd (omega arith)
less_more (x ∷ u) [] s t e h = absurd (omega arith)
less_more (x ∷ u) (y ∷ v) s t e h =
    ⊎_elim
    (λ (l : x < y). less_lower x y (u ++ s) (v ++ t) l)
    (λ (l : (x ≡ y) × (less_bytes u v ≡ true)). less_same x y (u ++ s) (v ++ t) l.0 ∙ less_more u v s t (omega arith) l.1)
    (less_cons x y u v h)

module _ (p q : List ℕ) {n : ℕ} (k : n ≡ min (length p) (length q)) {r : order.Ordering} (e : r ≡ order_bytes (take n p) (take n q)) where
  level : length (take n p) ≡ length (take n q)
  level = length-take-le n p (omega arith) ∙ sym (length-take-le n q (omega arith))

  pub fronts_less : r ≡ order.TheVariants.Less → FrontsCompared p q Less
  unfolding FrontsCompared
  fronts_less h s t =
      rw (cut n p s, cut n q t) (less_order _ _ (less_more (take n p) (take n q) _ _ level (order_less _ _ (sym e ∙ h))))

  pub fronts_greater : r ≡ order.TheVariants.Greater → FrontsCompared p q Greater
  unfolding FrontsCompared
  fronts_greater h s t =
      rw (cut n p s, cut n q t) (greater_order _ _ (less_more (take n q) (take n p) _ _ (sym level) (order_greater _ _ (sym e ∙ h))))

  pub fronts_same : r ≡ order.TheVariants.Equal → FrontsCompared p q (Both n)
  unfolding FrontsCompared
  fronts_same h = record { count = k; same = order_equal _ _ (sym e ∙ h) }
