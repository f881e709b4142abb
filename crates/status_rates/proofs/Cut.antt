-- A float cut downwards, found by halving: a whole number that is not 0 is at most the float exactly where it is at most the float cut downwards.
use mathlib.Core.Path.{◌≡◌, refl, sym, subst}
use mathlib.Core.Bool.{Bool, true, false, true≢false}
use Prim.Native.Nat.{ℕ, ◌+◌, ◌-◌, ◌*◌, ◌/◌, ◌^◌, ◌≤◌, ◌<◌, min}
use native.Mathlib.Nat.{le_of_eq, le_trans, lt_of_not-le, le-div_iff_mul-le, mul-one}
use native.Mathlib.Omega.{arith}
use lib.Dec.{T, lit≤}
use lib.Ieee.{Float, nan, inf, fin, binary64, up, down, le, of_int, to_unsigned}
use lib.Ieee.Fits.{down_pos}
use lib.Ieee.Exact.{HasValue}
use lib.Ieee.Order.{le_of_values}
use lib.Ieee.Positive.{above_of_le, own_value, positive_of_value, values_of_le}
use lib.Ieee.Back.{round_whole}
use lib.Ieee.Casts.{to_unsigned-lt}
use Rattle.status_rates.specs.Rates.{whole_float}

-- up to 2 ^ 53 a whole number is a float
pub whole_value : (n : ℕ) → n ≤ 2 ^ 53 → HasValue (whole_float n) false n 1
unfolding of_int
whole_value n h = round_whole binary64 false n h

of_true : {b : Bool} → b ≡ true → T b
of_true e = subst T (sym e) tt

not_false : {b : Bool} → T b → b ≡ false → ⊥
not_false t e = subst T e t

under_cap : (n a : ℕ) → n ≤ a → n < 0x2000000 → n ≤ min a (0x2000000 - 1)
under_cap n a h k = omega arith

cut_under : (n a : ℕ) → a < n → min a (0x2000000 - 1) < n
cut_under n a h = omega arith

at_most : (x v : Float) (n : ℕ) → HasValue x false n 1 → 0 < n → n < 0x2000000 → T (le x v) → n ≤ to_unsigned 25 v
unfolding to_unsigned
at_most x nan n h P S l = absurd (above_of_le x nan (positive_of_value x n 1 h P) l)
at_most x (inf true) n h P S l = absurd (above_of_le x (inf true) (positive_of_value x n 1 h P) l)
at_most x (inf false) n h P S l = omega arith
at_most x (fin true k d) n h P S l = absurd (above_of_le x (fin true k d) (positive_of_value x n 1 h P) l)
at_most x (fin false k d) n h P S l =
    let p = positive_of_value x n 1 h P in
    let q = above_of_le x (fin false k d) p l in
    let w : n * down d ≤ k * up d = le_trans (values_of_le x (fin false k d) n 1 (k * up d) (down d) p q h (own_value (fin false k d) q) l) (le_of_eq (mul-one (k * up d))) in
    under_cap n (k * up d / down d) ((le-div_iff_mul-le (down_pos d)).1 w) S

below_infinity : (x : Float) (n : ℕ) → HasValue x false n 1 → T (le x (inf false))
unfolding le
below_infinity nan n p = absurd p
below_infinity (inf s) n p = absurd p
below_infinity (fin true m e) n p = absurd (true≢false p.0)
below_infinity (fin false m e) n p = tt

above : (x v : Float) (n : ℕ) → HasValue x false n 1 → 0 < n → le x v ≡ false → to_unsigned 25 v < n
unfolding to_unsigned
above x nan n h P f = P
above x (inf true) n h P f = P
above x (inf false) n h P f = absurd (not_false (below_infinity x n h) f)
above x (fin true k d) n h P f = P
above x (fin false k d) n h P f =
    cut_under n (k * up d / down d)
    (lt_of_not-le (λ (g : n ≤ k * up d / down d).
    not_false (le_of_values x (fin false k d) n 1 (k * up d) (down d) (lit≤ tt) (down_pos d) h (refl, refl)
    (le_trans ((le-div_iff_mul-le (down_pos d)).0 g) (le_of_eq (sym (mul-one (k * up d)))))) f))

-- the number that is looked for lies from `low` on and below `high`
pub record Halving (v : Float) (low high : ℕ) : Type 0 where
  pub reached : low ≤ to_unsigned 25 v
  pub passed : to_unsigned 25 v < high
  pub most : high ≤ 0x2000000

pub halving_begin : (v : Float) → Halving v 0 0x2000000
halving_begin v = record { reached = omega arith; passed = to_unsigned-lt 25 v; most = lit≤ tt }

small : (n : ℕ) → n < 0x2000000 → n ≤ 2 ^ 53
small n h = omega arith

pub halving_up : {v : Float} {low high : ℕ} (n : ℕ) → Halving v low high → low < n → n < high → le (whole_float n) v ≡ true → Halving v n high
halving_up {v} n h a b t =
    record {
      reached = at_most (whole_float n) v n (whole_value n (small n (omega (arith, h.most)))) (omega arith) (omega (arith, h.most)) (of_true t);
      passed = h.passed;
      most = h.most;
    }

pub halving_down : {v : Float} {low high : ℕ} (n : ℕ) → Halving v low high → low < n → n < high → le (whole_float n) v ≡ false → Halving v low n
halving_down {v} n h a b f =
    record {
      reached = h.reached;
      passed = above (whole_float n) v n (whole_value n (small n (omega (arith, h.most)))) (omega arith) f;
      most = omega (arith, h.most);
    }

pub halving_end : {v : Float} {low high : ℕ} → Halving v low high → high ≤ low + 1 → low ≡ to_unsigned 25 v
halving_end h k = omega (arith, h.reached, h.passed)
