-- The three roundings stay in the normal range and below an infinity. L is the number of smallest units in 1: of it nothing is used but that it is large.
use Prim.Native.Nat.{ℕ, ◌*◌, ◌≤◌, ◌<◌}
use native.Mathlib.Nat.{le_trans, le_of_eq, mul_comm, mul_assoc, mul_left_comm, mul-le-mul_right, mul-le-mul_left, le_of_mul-le-mul_right, one-mul}
use native.Mathlib.Omega.{arith}
use mathlib.Core.Path.{◌≡◌, sym, ap}
use Rattle.status_rates.proofs.Near.{Near}
use Rattle.status_rates.proofs.Chain.{E, most, least}

-- within a factor of two
pub under_twice : (n g : ℕ) → Near E n g → g ≤ 2 * n
under_twice n g h = omega (arith, most n g h)

pub over_half : (n g : ℕ) → Near E n g → n ≤ 2 * g
over_half n g h = omega (arith, least n g h)

under_self : (n g : ℕ) → g * 1000 ≤ 2 * n → g ≤ n
under_self n g h = omega arith

module _ (L m s g1 : ℕ) (large : 0x100000000000000000000 ≤ L) (from : 0 < m) (to : m ≤ 86400000) (near : Near E (m * L) (g1 * 1000)) where
  pub unit_pos : 0 < L
  unit_pos = omega arith

  -- the seconds are at most the milliseconds, and not nothing
  pub seconds_most : g1 ≤ m * L
  seconds_most = under_self (m * L) g1 (under_twice (m * L) (g1 * 1000) near)

  pub seconds_least : L ≤ 2000 * g1
  seconds_least =
      let a : L ≤ m * L = le_trans (le_of_eq (sym (one-mul L))) (mul-le-mul_right L from) in
      let b : m * L ≤ 2 * (g1 * 1000) = over_half (m * L) (g1 * 1000) near in
      omega arith

  pub seconds_pos : 0 < g1
  seconds_pos = let a = seconds_least in omega arith

  -- the rate is normal
  pub rate_normal : 0 < s → E * g1 ≤ s * L * L
  rate_normal S =
      let a : E * g1 ≤ E * m * L = le_trans (mul-le-mul_left E seconds_most) (le_of_eq (sym (mul_assoc E m L))) in
      let b : E * m ≤ L = omega arith in
      let c : L * L ≤ s * L * L = le_trans (le_of_eq (ap (λ (x : ℕ). x * L) (sym (one-mul L)))) (mul-le-mul_right L (mul-le-mul_right L S)) in
      le_trans a (le_trans (mul-le-mul_right L b) c)

  module _ (g2 : ℕ) (few : s ≤ 2048) (next : Near E (s * L * L) (g2 * g1)) where
    -- the rate is not too small for ten times it to be normal
    pub tenfold_normal : 0 < s → E * L ≤ g2 * 10 * L
    tenfold_normal S =
        let a : s * L * L ≤ 2 * (g2 * (m * L)) = le_trans (over_half (s * L * L) (g2 * g1) next) (mul-le-mul_left 2 (mul-le-mul_left g2 seconds_most)) in
        let b : 2 * (g2 * (m * L)) ≡ 2 * (g2 * m) * L = simp (mul_assoc, mul_comm, mul_left_comm) in
        let c : s * L ≤ 2 * (g2 * m) = le_of_mul-le-mul_right (le_trans a (le_of_eq b)) unit_pos in
        let d : L ≤ s * L = le_trans (le_of_eq (sym (one-mul L))) (mul-le-mul_right L S) in
        let e : g2 * m ≤ g2 * 86400000 = mul-le-mul_left g2 to in
        let f : E ≤ g2 * 10 = omega arith in
        mul-le-mul_right L f

    -- nor too large
    pub rate_most : g2 ≤ 8192000 * L
    rate_most =
        let a : g2 * L ≤ g2 * (2000 * g1) = mul-le-mul_left g2 seconds_least in
        let b : g2 * (2000 * g1) ≡ 2000 * (g2 * g1) = simp (mul_assoc, mul_comm, mul_left_comm) in
        let c : g2 * g1 ≤ 2 * (s * L * L) = under_twice (s * L * L) (g2 * g1) next in
        let d : s * L * L ≤ 2048 * L * L = mul-le-mul_right L (mul-le-mul_right L few) in
        let e : 8192000 * L * L ≡ 4000 * (2048 * L * L) = simp (mul_assoc, mul_comm, mul_left_comm) (omega arith) in
        le_of_mul-le-mul_right (le_trans a (le_trans (le_of_eq b) (le_trans (scaled (g2 * g1) (s * L * L) (2048 * L * L) c d) (le_of_eq (sym e))))) unit_pos
      where
        scaled : (x y z : ℕ) → x ≤ 2 * y → y ≤ z → 2000 * x ≤ 4000 * z
        scaled x y z h k = omega arith

    pub tenfold_most : (g3 : ℕ) → Near E (g2 * 10 * L) (g3 * L) → g3 ≤ 163840000 * L
    tenfold_most g3 last =
        let a : g3 * L ≤ 2 * (g2 * 10 * L) = under_twice (g2 * 10 * L) (g3 * L) last in
        let b : 2 * (g2 * 10 * L) ≡ 20 * g2 * L = simp (mul_assoc, mul_comm, mul_left_comm) (omega arith) in
        let c : g3 ≤ 20 * g2 = le_of_mul-le-mul_right (le_trans a (le_of_eq b)) unit_pos in
        let d = rate_most in
        omega arith
