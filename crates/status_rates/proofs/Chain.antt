-- Three roundings after one another, each near what it rounds, and the whole number of tenths: within 1 of the whole quotient.
use mathlib.Core.Path.{◌≡◌, sym, ap, ◌∙◌, subst}
use Prim.Native.Nat.{ℕ, zero, suc, ◌+◌, ◌*◌, ◌/◌, ◌≤◌, ◌<◌}
use native.Mathlib.Nat.{le_trans, le_of_eq, lt_of_lt_of_le, lt_of_le_of_lt, mul_comm, mul_assoc, mul_left_comm, mul-le-mul_left, mul-le-mul, mul-pos, add-mul, mul-add, mul-one, le_of_mul-le-mul_left, le_of_mul-le-mul_right, lt_of_mul-lt-mul_right, mul-suc, lt_of_mul-lt-mul_left, le-div_iff_mul-le, div-lt_iff_lt-mul, div-mul-le_self, lt-suc_self, mul-lt-mul_of_pos_left, le_of_suc-le-suc}
use native.Mathlib.Omega.{arith}
use lib.Dec.{lit<, lit≤}
use Rattle.status_rates.specs.Within.{WithinOne}
use Rattle.status_rates.proofs.Near.{Near}

abbrev pub E : ℕ
E = 0x10000000000000

abbrev pub D : ℕ
D = 0xfffffffffffff

abbrev pub F : ℕ
F = 0x10000000000001

-- what Near says, by factors
pub most : (n g : ℕ) → Near E n g → E * g ≤ F * n
most n g h = omega (arith, h.most)

pub least : (n g : ℕ) → Near E n g → D * n ≤ E * g
least n g h = omega (arith, h.least)

-- ---- from above
mix : (e f p q g1 g2 L : ℕ) → e * (g1 * p) * (f * (g2 * q * L)) ≡ p * q * L * f * (e * (g2 * g1))
mix e f p q g1 g2 L = simp (mul_assoc, mul_comm, mul_left_comm)

up_product : (d e f L m s g1 g2 g3 : ℕ) → d * (m * L) ≤ e * (g1 * 1000) → e * (g2 * g1) ≤ f * (s * L * L) → e * (g3 * L) ≤ f * (g2 * 10 * L)
    → d * (e * (m * g3)) * (L * L) ≤ f * (f * (10000 * s)) * L * (L * L)
up_product d e f L m s g1 g2 g3 h3 h2 h1 =
    le_trans (le_of_eq a) (le_trans (mul-le-mul h3 h1) (le_trans (le_of_eq (mix e f 1000 10 g1 g2 L)) (le_trans (mul-le-mul_left (10000 * L * f) h2) (le_of_eq c))))
  where
    a : d * (e * (m * g3)) * (L * L) ≡ (d * (m * L)) * (e * (g3 * L))
    a = simp (mul_assoc, mul_comm, mul_left_comm)

    c : (10000 * L * f) * (f * (s * L * L)) ≡ f * (f * (10000 * s)) * L * (L * L)
    c = simp (mul_assoc, mul_comm, mul_left_comm)

down_product : (d e f L m s g1 g2 g3 : ℕ) → e * (g1 * 1000) ≤ f * (m * L) → d * (s * L * L) ≤ e * (g2 * g1) → d * (g2 * 10 * L) ≤ e * (g3 * L)
    → d * (d * (10000 * s)) * L * (L * L) ≤ e * (f * (m * g3)) * (L * L)
down_product d e f L m s g1 g2 g3 h3 h2 h1 =
    le_trans (le_of_eq c) (le_trans (mul-le-mul_left (10000 * L * d) h2) (le_trans (le_of_eq (sym (mix e d 1000 10 g1 g2 L))) (le_trans (mul-le-mul h3 h1) (le_of_eq a))))
  where
    a : (f * (m * L)) * (e * (g3 * L)) ≡ e * (f * (m * g3)) * (L * L)
    a = simp (mul_assoc, mul_comm, mul_left_comm)

    c : d * (d * (10000 * s)) * L * (L * L) ≡ (10000 * L * d) * (d * (s * L * L))
    c = simp (mul_assoc, mul_comm, mul_left_comm)

-- the whole part of g3 / L, in the place of g3
whole_up : (d e f L m s T g3 : ℕ) → 0 < L → T * L ≤ g3 → d * (e * (m * g3)) * (L * L) ≤ f * (f * (10000 * s)) * L * (L * L) → d * (e * (m * T)) ≤ f * (f * (10000 * s))
whole_up d e f L m s T g3 P t h =
    le_of_mul-le-mul_right (le_trans (le_trans (le_of_eq a) (mul-le-mul_left d (mul-le-mul_left e (mul-le-mul_left m t)))) (le_of_mul-le-mul_right h (mul-pos P P))) P
  where
    a : d * (e * (m * T)) * L ≡ d * (e * (m * (T * L)))
    a = simp (mul_assoc, mul_comm, mul_left_comm)

whole_down : (d e f L m s T g3 : ℕ) → 0 < L → 0 < e → 0 < f → 0 < m → g3 < suc T * L → d * (d * (10000 * s)) * L * (L * L) ≤ e * (f * (m * g3)) * (L * L) → d * (d * (10000 * s)) < e * (f * (m * suc T))
whole_down d e f L m s T g3 P Pe Pf Pm t h =
    lt_of_mul-lt-mul_right L (lt_of_le_of_lt (le_of_mul-le-mul_right h (mul-pos P P)) (lt_of_lt_of_le (mul-lt-mul_of_pos_left (mul-lt-mul_of_pos_left (mul-lt-mul_of_pos_left t Pm) Pf) Pe) (le_of_eq a)))
  where
    a : e * (f * (m * (suc T * L))) ≡ e * (f * (m * suc T)) * L
    a = simp (mul_assoc, mul_comm, mul_left_comm)

-- ---- with the numbers
square : (X : ℕ) → F * (F * X) ≤ E * (D * X + 4 * X)
square X = omega arith

plain : (A B C d x : ℕ) → A ≤ B + x → x < d → d ≤ C → A < B + C
plain A B C d x h k l = omega arith

times : (m : ℕ) → 0 < m → D ≤ D * m
times m P = le_trans (le_of_eq (sym (mul-one D))) (mul-le-mul_left D P)

above : (X m T : ℕ) → 0 < m → 4 * X < D → D * (E * (m * T)) ≤ F * (F * X) → m * T < X + m
above X m T P small h =
    let one : E * (D * (m * T)) ≤ E * (D * X + 4 * X) = le_trans (le_of_eq (mul_left_comm E D (m * T))) (le_trans h (square X)) in
    let two : D * (m * T) ≤ D * X + 4 * X = le_of_mul-le-mul_left one (lit< tt) in
    let three : D * (m * T) < D * X + D * m = plain (D * (m * T)) (D * X) (D * m) D (4 * X) two small (times m P) in
    lt_of_mul-lt-mul_left D (lt_of_lt_of_le three (le_of_eq (sym (mul-add D X m))))

parts : (Y : ℕ) → E * (F * Y) ≤ D * (D * Y) + 4 * (E * Y)
parts Y = omega arith

sum_up : (A B C Y G : ℕ) → A < Y → Y ≤ B + G → G ≤ C → A < B + C
sum_up A B C Y G h k l = omega arith

few : (X m T : ℕ) → m * T < X + m → X + 2 * m < 0x10000000 → m * suc T ≤ 0x10000000
few X m T up small = omega (arith, mul-suc m T)

below : (X m T : ℕ) → 0 < m → m * T < X + m → X + 2 * m < 0x10000000 → D * (D * X) < E * (F * (m * suc T)) → X < m * suc T + m
below X m T P up small h =
    let Y = m * suc T in
    let less : 4 * (E * Y) ≤ D * (D * m) = le_trans (mul-le-mul_left 4 (mul-le-mul_left E (few X m T up small))) (le_trans (lit≤ {n = D * D} tt) (mul-le-mul_left D (times m P))) in
    let two : D * (D * X) < D * (D * Y) + D * (D * m) = sum_up (D * (D * X)) (D * (D * Y)) (D * (D * m)) (E * (F * Y)) (4 * (E * Y)) h (parts Y) less in
    lt_of_mul-lt-mul_left D (lt_of_mul-lt-mul_left D (lt_of_lt_of_le two (le_of_eq (sym (ap (λ (z : ℕ). D * z) (mul-add D Y m) ∙ mul-add D (D * Y) (D * m))))))

last : (t X m : ℕ) → 0 < m → m * suc t < X + m → t ≤ X / m
last t X m P h = (le-div_iff_mul-le P).1 (omega (arith, h, mul-suc m t, mul_comm t m))

at_most : (T X m : ℕ) → 0 < m → m * T < X + m → T ≤ X / m + 1
at_most zero X m P h = omega arith
at_most (suc t) X m P h = omega (arith, last t X m P h)

by_two : (T m : ℕ) → m * suc T + m ≡ (T + 2) * m
by_two T m = omega (arith, mul-suc m T, add-mul T 2 m, mul_comm m T)

two_more : (T : ℕ) → T + 2 ≡ suc (T + 1)
two_more T = omega arith

at_least : (T X m : ℕ) → 0 < m → X < m * suc T + m → X / m ≤ T + 1
at_least T X m P h = le_of_suc-le-suc (subst (λ (z : ℕ). X / m < z) (two_more T) ((div-lt_iff_lt-mul P).1 (lt_of_lt_of_le h (le_of_eq (by_two T m)))))

pub within : (L m s g1 g2 g3 : ℕ) → 0 < L → 0 < m → 4 * (10000 * s) < D → 10000 * s + 2 * m < 0x10000000
    → Near E (m * L) (g1 * 1000) → Near E (s * L * L) (g2 * g1) → Near E (g2 * 10 * L) (g3 * L) → WithinOne (10000 * s) m (g3 / L)
within L m s g1 g2 g3 PL Pm small less n1 n2 n3 =
    let T = g3 / L in
    let up : m * T < 10000 * s + m = above (10000 * s) m T Pm small (whole_up D E F L m s T g3 PL (div-mul-le_self g3 L) (up_product D E F L m s g1 g2 g3 (least (m * L) (g1 * 1000) n1) (most (s * L * L) (g2 * g1) n2) (most (g2 * 10 * L) (g3 * L) n3))) in
    let down : 10000 * s < m * suc T + m = below (10000 * s) m T Pm up less (whole_down D E F L m s T g3 PL (lit< tt) (lit< tt) Pm ((div-lt_iff_lt-mul PL).0 (lt-suc_self T)) (down_product D E F L m s g1 g2 g3 (most (m * L) (g1 * 1000) n1) (least (s * L * L) (g2 * g1) n2) (least (g2 * 10 * L) (g3 * L) n3))) in
    record { most = at_most T (10000 * s) m Pm up; least = at_least T (10000 * s) m Pm down }
