-- What an operation gives where its operands are known fractions that are not negative: the rounded fraction.
use mathlib.Core.Path.{◌≡◌, refl, sym, ap, ◌∙◌, subst}
use mathlib.Core.Bool.{Bool, true, false, cond, true≢false}
use Prim.Native.Nat.{ℕ, zero, suc, ◌+◌, ◌-◌, ◌*◌, ◌^◌, ◌≤◌, ◌<◌}
use native.Mathlib.Nat.{le_trans, le_of_eq, lt_irrefl, not-le_of_lt, mul_comm, mul_assoc, mul_left_comm, mul-pos, mul-one, zero-mul, mul-le-mul_right, mul-mul-mul_comm, mul-sub}
use native.Mathlib.Omega.{arith}
use lib.IntN.{ℤ}
use lib.Dec.{T, ltb, eqb, ltb→lt, eqb→eq, lit≤}
use lib.Pow.{pow_pos}
use lib.Ieee.{Float, nan, inf, fin, Format, prec, emax, low, up, down, round, sum, mul, div, sub}
use lib.Ieee.Fits.{up_pos, down_pos}
use lib.Ieee.Exact.{HasValue, round_exact}
use lib.Ieee.Scale.{round_same}

cross : (m n u v a b c d x y : ℕ) → m * c ≡ a * x → n * d ≡ b * y → m * n * (c * d) ≡ a * b * (x * y)
cross m n u v a b c d x y p q = mul-mul-mul_comm m n c d ∙ ap (λ (z : ℕ). z * (n * d)) p ∙ ap (λ (z : ℕ). a * x * z) q ∙ mul-mul-mul_comm a x b y

pub mul_value : (f : Format) (x y : Float) (a c b d : ℕ) → 0 < c → 0 < d → HasValue x false a c → HasValue y false b d → mul f x y ≡ round f false (a * b) (c * d)
unfolding mul
mul_value f nan y a c b d C D h k = absurd h
mul_value f (inf s) y a c b d C D h k = absurd h
mul_value f (fin true m e) y a c b d C D h k = absurd (true≢false h.0)
mul_value f (fin false m e) nan a c b d C D h k = absurd k
mul_value f (fin false m e) (inf t) a c b d C D h k = absurd k
mul_value f (fin false m e) (fin true n g) a c b d C D h k = absurd (true≢false k.0)
mul_value f (fin false m e) (fin false n g) a c b d C D h k =
    round_same f false (m * up e * (n * up g)) (down e * down g) (a * b) (c * d) (mul-pos (down_pos e) (down_pos g)) (mul-pos C D)
    (cross (m * up e) (n * up g) 0 0 a b c d (down e) (down g) h.1 k.1)

positive_part : (n u d b y : ℕ) → n * u * d ≡ b * y → 0 < b → 0 < y → (n ≡ 0) → ⊥
positive_part n u d b y e B Y z =
    lt_irrefl 0 (subst (λ (k : ℕ). 0 < k) (sym e ∙ ap (λ (k : ℕ). k * u * d) z ∙ ap (λ (k : ℕ). k * d) (zero-mul u) ∙ zero-mul d) (mul-pos B Y))

quotient : (f : Format) (m : ℕ) (e : ℤ) (n : ℕ) (g : ℤ) → (n ≡ 0 → ⊥) → div f (fin false m e) (fin false n g) ≡ round f false (m * up e * down g) (n * up g * down e)
unfolding div
quotient f m e n g not = go (eqb n 0) (eqb→eq n 0)
  where
    go : (t : Bool) → (T t → n ≡ 0)
        → cond t (cond (eqb m 0) nan (inf false)) (round f false (m * up e * down g) (n * up g * down e)) ≡ round f false (m * up e * down g) (n * up g * down e)
    go true k = absurd (not (k tt))
    go false k = refl

crossed : (m n x y a b c d : ℕ) → m * c ≡ a * x → n * d ≡ b * y → m * y * (c * b) ≡ a * d * (n * x)
crossed m n x y a b c d p q =
    let one : m * y * (c * b) ≡ m * c * (b * y) = simp (mul_assoc, mul_comm, mul_left_comm) in
    let two : a * x * (n * d) ≡ a * d * (n * x) = simp (mul_assoc, mul_comm, mul_left_comm) in
    one ∙ ap (λ (z : ℕ). z * (b * y)) p ∙ ap (λ (z : ℕ). a * x * z) (sym q) ∙ two

pos_of : (n : ℕ) → (n ≡ 0 → ⊥) → 0 < n
pos_of zero not = absurd (not refl)
pos_of (suc n) not = omega arith

pub div_value : (f : Format) (x y : Float) (a c b d : ℕ) → 0 < c → 0 < b → HasValue x false a c → HasValue y false b d → div f x y ≡ round f false (a * d) (c * b)
div_value f nan y a c b d C B h k = absurd h
div_value f (inf s) y a c b d C B h k = absurd h
div_value f (fin true m e) y a c b d C B h k = absurd (true≢false h.0)
div_value f (fin false m e) nan a c b d C B h k = absurd k
div_value f (fin false m e) (inf t) a c b d C B h k = absurd k
div_value f (fin false m e) (fin true n g) a c b d C B h k = absurd (true≢false k.0)
div_value f (fin false m e) (fin false n g) a c b d C B h k =
    let no : n ≡ 0 → ⊥ = positive_part n (up g) d b (down g) k.1 B (down_pos g) in
    quotient f m e n g no
    ∙ round_same f false (m * up e * down g) (n * up g * down e) (a * d) (c * b) (mul-pos (mul-pos (pos_of n no) (up_pos g)) (down_pos e)) (mul-pos C B)
    (crossed (m * up e) (n * up g) (down e) (down g) a b c d h.1 k.1)

picked : (f : Format) (a b c : ℕ) → b ≤ a → sum f false a true b c ≡ round f false (a - b) c
unfolding sum
picked f a b c h = go (ltb a b) (ltb→lt a b)
  where
    go : (t : Bool) → (T t → a < b) → cond t (round f true (b - a) c) (round f false (a - b) c) ≡ round f false (a - b) c
    go true k = absurd (not-le_of_lt (k tt) h)
    go false k = refl

opened : (f : Format) (m : ℕ) (e : ℤ) (n : ℕ) (g : ℤ) → sub f (fin false m e) (fin false n g) ≡ sum f false (m * up e * down g) true (n * up g * down e) (down e * down g)
unfolding sub
opened f m e n g = refl

whole_part : (m x a y : ℕ) → m * 1 ≡ a * x → m * y ≡ a * (x * y)
whole_part m x a y p = ap (λ (z : ℕ). z * y) (sym (mul-one m) ∙ p) ∙ mul_assoc a x y

-- the difference of two whole numbers
pub sub_value : (f : Format) (x y : Float) (a b : ℕ) → b ≤ a → HasValue x false a 1 → HasValue y false b 1 → sub f x y ≡ round f false (a - b) 1
sub_value f nan y a b l h k = absurd h
sub_value f (inf s) y a b l h k = absurd h
sub_value f (fin true m e) y a b l h k = absurd (true≢false h.0)
sub_value f (fin false m e) nan a b l h k = absurd k
sub_value f (fin false m e) (inf t) a b l h k = absurd k
sub_value f (fin false m e) (fin true n g) a b l h k = absurd (true≢false k.0)
sub_value f (fin false m e) (fin false n g) a b l h k =
    let p : m * up e * down g ≡ a * (down e * down g) = whole_part (m * up e) (down e) a (down g) h.1 in
    let q : n * up g * down e ≡ b * (down e * down g) = whole_part (n * up g) (down g) b (down e) k.1 ∙ ap (λ (z : ℕ). b * z) (mul_comm (down g) (down e)) in
    let le : n * up g * down e ≤ m * up e * down g = le_trans (le_of_eq q) (le_trans (mul-le-mul_right (down e * down g) l) (le_of_eq (sym p))) in
    opened f m e n g
    ∙ picked f (m * up e * down g) (n * up g * down e) (down e * down g) le
    ∙ round_same f false (m * up e * down g - n * up g * down e) (down e * down g) (a - b) 1 (mul-pos (down_pos e) (down_pos g)) (lit≤ tt)
    (mul-one (m * up e * down g - n * up g * down e) ∙ ap (λ (z : ℕ). z - n * up g * down e) p ∙ ap (λ (z : ℕ). a * (down e * down g) - z) q ∙ apart a b (down e * down g))
  where
    apart : (a b c : ℕ) → a * c - b * c ≡ (a - b) * c
    apart a b c = ap (λ (z : ℕ). z - b * c) (mul_comm a c) ∙ ap (λ (z : ℕ). c * a - z) (mul_comm b c) ∙ sym (mul-sub c a b) ∙ mul_comm c (a - b)

-- nothing is rounded to nothing
pub round_zero : (f : Format) (c : ℕ) → 0 < c → HasValue (round f false 0 c) false 0 c
round_zero f c C = round_exact f false 0 c 0 0 C (pow_pos (prec f)) (subst (λ (z : ℕ). z < 2 ^ (low f + suc (emax f))) (sym (zero-mul (2 ^ 0))) (pow_pos (low f + suc (emax f)))) (zero-mul (2 ^ low f) ∙ sym (ap (λ (z : ℕ). z * c) (zero-mul (2 ^ 0)) ∙ zero-mul c))
