-- "for at most 2,048 steps the number of tenths is within 1 of 10,000 times the steps divided by the milliseconds, cut downwards", and when a rate is known.
use Rattle.std.specs.Prelude.{Some, None}
use mathlib.Core.Path.{◌≡◌, refl, sym, ap, ◌∙◌, subst}
use mathlib.Core.Bool.{Bool, true, false, true≢false}
use Prim.Native.Nat.{ℕ, zero, suc, ◌+◌, ◌-◌, ◌*◌, ◌/◌, ◌^◌, ◌≤◌, ◌<◌, min}
use native.Mathlib.Nat.{le_trans, le_of_eq, lt_of_lt_of_le, lt_of_le_of_lt, mul_comm, mul-le-mul_right, mul-lt-mul_of_pos_left, mul-one, one-mul, zero-mul, mul-pos, div-le_self, zero-div}
use native.Mathlib.Omega.{arith}
use lib.Dec.{T, lit≤, lit<, ltb, lt→ltb, ltb→lt}
use lib.IntN.{pos}
use lib.Pow.{pow-add, pow_pos, pow_mono}
use lib.Ieee.{Float, nan, inf, fin, binary64, low, up, down, round, mul, div, sub, lt, of_int, to_unsigned}
use lib.Ieee.Exact.{HasValue}
use lib.Ieee.Fits.{down_pos, up_pos}
use lib.Ieee.Nearest.{div_same}
use lib.Ieee.Scale.{grid, overflow, round_val, normal_of_fraction}
use lib.Ieee.Positive.{positive, positive_of_value}
use Rattle.status_rates.specs.Rates.{whole_float, seconds_of, rate_of, tenths_of}
use Rattle.status_rates.specs.Within.{WithinOne, TenthsNear, day}
use Rattle.status_rates.proofs.Cut.{whole_value}
use Rattle.status_rates.proofs.Near.{Near, near}
use Rattle.status_rates.proofs.Chain.{E, within}
use Rattle.status_rates.proofs.Values.{mul_value, div_value, sub_value, round_zero}
use Rattle.status_rates.proofs.Ranges as ranges

-- the smallest units in 1
abbrev one : ℕ
one = 2 ^ low binary64

large : 0x100000000000000000000 ≤ one
large = pow_mono {i = 80} {j = 1074} (lit≤ tt)

-- what is k in size is far from an infinity
under : (g k : ℕ) → g ≤ k * one → k < 2 ^ 1024 → g < overflow binary64
under g k h l =
    lt_of_le_of_lt h
    (lt_of_lt_of_le (subst (λ (x : ℕ). x < one * 2 ^ 1024) (mul_comm one k) (mul-lt-mul_of_pos_left l (pow_pos (low binary64)))) (le_of_eq (sym (pow-add 2 (low binary64) 1024))))

small : (k : ℕ) → k ≤ 0x10000000 → k < 2 ^ 1024
small k h = lt_of_le_of_lt h (lit< {m = 0x10000000} {n = 2 ^ 1024} tt)

-- a float that equals a fraction which is not too large, cut downwards
cut : (v : Float) (g c : ℕ) → 0 < c → HasValue v false g c → g / c < 0x2000000 → to_unsigned 25 v ≡ g / c
unfolding to_unsigned
cut nan g c C h l = absurd h
cut (inf s) g c C h l = absurd h
cut (fin true m e) g c C h l = absurd (true≢false h.0)
cut (fin false m e) g c C h l =
    let is : m * up e / down e ≡ g / c = div_same (m * up e) (down e) g c (down_pos e) C h.1 in
    ap (λ (x : ℕ). min x (0x2000000 - 1)) is ∙ capped (g / c) l
  where
    capped : (x : ℕ) → x < 0x2000000 → min x (0x2000000 - 1) ≡ x
    capped x k = omega arith

whole_small : (n : ℕ) → n ≤ 0x10000000 → HasValue (whole_float n) false n 1
whole_small n h = whole_value n (le_trans h (lit≤ tt))

-- ---- the seconds
module _ (m : ℕ) (from : 0 < m) (to : m ≤ day) where
  abbrev g1 : ℕ
  g1 = grid binary64 m 1000

  normal_seconds : 2 ^ 52 * 1000 ≤ m * one
  normal_seconds =
      le_trans (lit≤ {m = 2 ^ 52 * 1000} {n = 0x100000000000000000000} tt)
      (le_trans large (le_trans (le_of_eq (sym (one-mul one))) (mul-le-mul_right one from)))

  near_seconds : Near E (m * one) (g1 * 1000)
  near_seconds = near binary64 m 1000 (lit< tt) (normal_of_fraction binary64 m 1000 (lit< tt) normal_seconds)

  seconds_value : HasValue (seconds_of (whole_float m)) false g1 one
  unfolding seconds_of
  seconds_value =
      subst (λ (x : Float). HasValue x false g1 one)
      (sym (div_value binary64 (whole_float m) (whole_float 1000) m 1 1000 1 (lit< tt) (lit< tt) (whole_small m (le_trans to (lit≤ tt))) (whole_small 1000 (lit≤ tt))
      ∙ ap (λ (x : ℕ). round binary64 false x 1000) (mul-one m)))
      (round_val binary64 m 1000 (under g1 m (ranges.seconds_most one m 0 g1 large from to near_seconds) (small m (le_trans to (lit≤ tt)))))

  seconds_pos : 0 < g1
  seconds_pos = ranges.seconds_pos one m 0 g1 large from to near_seconds

  -- ---- the rate of some steps, and its tenths
  module _ (n : ℕ) (some : 0 < n) (few : n ≤ 2048) where
    abbrev g2 : ℕ
    g2 = grid binary64 (n * one) g1

    abbrev rate : Float
    rate = div binary64 (whole_float n) (seconds_of (whole_float m))

    near_rate : Near E (n * one * one) (g2 * g1)
    near_rate = near binary64 (n * one) g1 seconds_pos (normal_of_fraction binary64 (n * one) g1 seconds_pos (ranges.rate_normal one m n g1 large from to near_seconds some))

    rate_value : HasValue rate false g2 one
    rate_value =
        subst (λ (x : Float). HasValue x false g2 one)
        (sym (div_value binary64 (whole_float n) (seconds_of (whole_float m)) n 1 g1 one (lit< tt) seconds_pos (whole_small n (le_trans few (lit≤ tt))) seconds_value
        ∙ ap (λ (x : ℕ). round binary64 false (n * one) x) (one-mul g1)))
        (round_val binary64 (n * one) g1 (under g2 8192000 (ranges.rate_most one m n g1 large from to near_seconds g2 few near_rate) (small 8192000 (lit≤ tt))))

    abbrev g3 : ℕ
    g3 = grid binary64 (g2 * 10) one

    near_tenfold : Near E (g2 * 10 * one) (g3 * one)
    near_tenfold =
        near binary64 (g2 * 10) one (pow_pos (low binary64))
        (normal_of_fraction binary64 (g2 * 10) one (pow_pos (low binary64)) (ranges.tenfold_normal one m n g1 large from to near_seconds g2 few near_rate some))

    tenfold_value : HasValue (mul binary64 rate (whole_float 10)) false g3 one
    tenfold_value =
        subst (λ (x : Float). HasValue x false g3 one)
        (sym (mul_value binary64 rate (whole_float 10) g2 one 10 1 (pow_pos (low binary64)) (lit< tt) rate_value (whole_small 10 (lit≤ tt))
        ∙ ap (λ (x : ℕ). round binary64 false (g2 * 10) x) (mul-one one)))
        (round_val binary64 (g2 * 10) one (under g3 163840000 (ranges.tenfold_most one m n g1 large from to near_seconds g2 few near_rate g3 near_tenfold) (small 163840000 (lit≤ tt))))

    chained : WithinOne (10000 * n) m (g3 / one)
    chained = within one m n g1 g2 g3 (pow_pos (low binary64)) from (omega arith) (omega arith) near_seconds near_rate near_tenfold

    some_near : TenthsNear n m (tenths_of rate)
    unfolding tenths_of
    some_near =
        subst (λ (t : ℕ). WithinOne (10000 * n) m t)
        (sym (cut (mul binary64 rate (whole_float 10)) g3 one (pow_pos (low binary64)) tenfold_value (few_tenths (10000 * n / m) (g3 / one) chained.most (div-le_self (10000 * n) m))))
        chained
      where
        few_tenths : (q t : ℕ) → t ≤ q + 1 → q ≤ 10000 * n → t < 0x2000000
        few_tenths q t h k = omega arith

  -- ---- none finished: no tenths
  none_rate : HasValue (div binary64 (whole_float 0) (seconds_of (whole_float m))) false 0 g1
  none_rate =
      subst (λ (x : Float). HasValue x false 0 g1)
      (sym (div_value binary64 (whole_float 0) (seconds_of (whole_float m)) 0 1 g1 one (lit< tt) seconds_pos (whole_small 0 (lit≤ tt)) seconds_value
      ∙ ap (λ (x : ℕ). round binary64 false x (1 * g1)) (zero-mul one)
      ∙ ap (λ (x : ℕ). round binary64 false 0 x) (one-mul g1)))
      (round_zero binary64 g1 seconds_pos)

  none_tenfold : HasValue (mul binary64 (div binary64 (whole_float 0) (seconds_of (whole_float m))) (whole_float 10)) false 0 g1
  none_tenfold =
      subst (λ (x : Float). HasValue x false 0 g1)
      (sym (mul_value binary64 (div binary64 (whole_float 0) (seconds_of (whole_float m))) (whole_float 10) 0 g1 10 1 seconds_pos (lit< tt) none_rate (whole_small 10 (lit≤ tt))
      ∙ ap (λ (x : ℕ). round binary64 false x (g1 * 1)) (zero-mul 10)
      ∙ ap (λ (x : ℕ). round binary64 false 0 x) (mul-one g1)))
      (round_zero binary64 g1 seconds_pos)

  none_tenths : tenths_of (div binary64 (whole_float 0) (seconds_of (whole_float m))) ≡ 0
  unfolding tenths_of
  none_tenths =
      cut (mul binary64 (div binary64 (whole_float 0) (seconds_of (whole_float m))) (whole_float 10)) 0 g1 seconds_pos none_tenfold
      (subst (λ (x : ℕ). x < 0x2000000) (sym (zero-div g1)) (lit< tt))
      ∙ zero-div g1

  none_near : TenthsNear 0 m (tenths_of (div binary64 (whole_float 0) (seconds_of (whole_float m))))
  none_near = subst (λ (t : ℕ). WithinOne (10000 * 0) m t) (sym none_tenths) (record { most = omega arith; least = le_trans (le_of_eq (zero-div m)) (omega arith) })

-- "for at most 2,048 steps", "for every time from 1 to 86,400,000"
pub tenths_near : (n m : ℕ) → n ≤ 2048 → 0 < m → m ≤ day → TenthsNear n m (tenths_of (div binary64 (whole_float n) (seconds_of (whole_float m))))
tenths_near zero m few from to = none_near m from to
tenths_near (suc n) m few from to = some_near m from to (suc n) (omega arith) few

-- ---- a rate is known exactly when time has passed
of_T : (b : Bool) → T b → b ≡ true
of_T true t = refl
of_T false t = absurd t

zero_is : whole_float 0 ≡ fin false 0 (pos 0)
unfolding of_int
zero_is = refl

above_zero : (x : Float) → T (positive x) → lt (fin false 0 (pos 0)) x ≡ true
unfolding lt
above_zero nan p = absurd p
above_zero (inf s) p = absurd p
above_zero (fin true m e) p = absurd p
above_zero (fin false m e) p = of_T (ltb (0 * 1 * down e) (m * up e * 1)) (lt→ltb (0 * 1 * down e) (m * up e * 1) (subst (λ (x : ℕ). x < m * up e * 1) (sym (zero-mul (down e))) (mul-pos (mul-pos (ltb→lt 0 m p) (up_pos e)) (lit< tt))))

time_passed : (m : ℕ) → 0 < m → m ≤ day → lt (whole_float 0) (seconds_of (whole_float m)) ≡ true
time_passed m from to =
    ap (λ (x : Float). lt x (seconds_of (whole_float m))) zero_is
    ∙ above_zero (seconds_of (whole_float m)) (positive_of_value (seconds_of (whole_float m)) (grid binary64 m 1000) one (seconds_value m from to) (seconds_pos m from to))

pub rate_known : (n m : ℕ) → 0 < m → m ≤ day → rate_of n (seconds_of (whole_float m)) ≡ Some (div binary64 (whole_float n) (seconds_of (whole_float m)))
unfolding rate_of
rate_known n m from to = rw (time_passed m from to)

pub rate_none : (n : ℕ) → rate_of n (seconds_of (whole_float 0)) ≡ None
unfolding rate_of seconds_of
rate_none n = refl

-- the difference of two times is a whole number of milliseconds
pub sub_whole : (a b : ℕ) → b ≤ a → a ≤ day → sub binary64 (whole_float a) (whole_float b) ≡ whole_float (a - b)
unfolding of_int
sub_whole a b h to = sub_value binary64 (whole_float a) (whole_float b) a b h (whole_small a (le_trans to (lit≤ tt))) (whole_small b (le_trans h (le_trans to (lit≤ tt))))
