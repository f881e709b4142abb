-- The fewest digits that hold a number, as the kit writes them, are the number in decimal.
use Prim.Native.Nat.{ℕ, zero, suc, ◌+◌, ◌-◌, ◌*◌, ◌/◌, ◌%◌, ◌^◌, ◌≤◌, ◌<◌}
use native.Mathlib.Nat.{pow-le-pow_right, pow-suc, mod-eq_of_lt, mod-lt, div-lt_self, div-lt_iff_lt-mul, le-div_iff_mul-le, one-le-pow}
use native.Mathlib.Omega.{arith}
use mathlib.Core.Bool.{false}
use mathlib.Core.Path.{◌≡◌}
use borrow.Author.Tests.{lt-ltb, le-ltb, leb-true, leb-false}
use lib.Dec.{leb}
use Rattle.lists.specs.Tests.{split}
use Rattle.io.specs.Digits.{last_digits, hex_digit_ascii, IsDigitCount}
use Rattle.printing.specs.Lines.{decimal, decimal_up}

glyph_digit : (d : ℕ) → d < 10 → hex_digit_ascii d ≡ 48 + d
glyph_digit d h = rw (lt-ltb d 10 h)

low_digit : (n : ℕ) → n % 10 < 10
low_digit n = mod-lt n (omega arith)

-- more than one digit: ten at least
two_digits : (j n : ℕ) → 10 ^ (suc (suc j) - 1) ≤ n → 10 ≤ n
two_digits j n h =
    let z : suc (suc j) - 1 ≡ suc j = omega arith in
    let a : 10 ^ suc j ≤ n = rw z at h in
    let b : 10 ^ suc j ≡ 10 ^ j * 10 = pow-suc 10 j in
    let c : 1 ≤ 10 ^ j = one-le-pow j 10 (omega arith) in
    omega arith

fewer : (j n : ℕ) → IsDigitCount 10 1 n (suc (suc j)) → IsDigitCount 10 1 (n / 10) (suc j)
fewer j n h =
    let z : suc (suc j) - 1 ≡ suc j = omega arith in
    let y : suc j - 1 ≡ j = omega arith in
    let a : n < 10 ^ suc j * 10 = rw (pow-suc 10 (suc j)) at h.1 in (
      omega arith,
      (div-lt_iff_lt-mul {k = 10} {x = n} {y = 10 ^ suc j} (omega arith)).1 a,
      λ (w : 1 < suc j).
          let b : 10 ^ suc j ≤ n = rw z at (h.2 (omega arith)) in
          let e : 10 ^ j * 10 ≤ n = rw (pow-suc 10 j) at b in
          rw y ((le-div_iff_mul-le {k = 10} {x = 10 ^ j} {y = n} (omega arith)).1 e),
    )

pub digits_decimal : (k f n : ℕ) → n < f → IsDigitCount 10 1 n k → last_digits 10 k n ≡ decimal_up f n
unfolding decimal_up
digits_decimal zero f n b h = absurd (omega (arith, h.0))
digits_decimal (suc k) zero n b h = absurd (omega arith)
digits_decimal (suc zero) (suc f) n b h =
    let t : n < 10 = h.1 in
    let m : n % 10 ≡ n = mod-eq_of_lt t in
    rw (lt-ltb n 10 t, m, glyph_digit n t)
digits_decimal (suc (suc j)) (suc f) n b h =
    let t : 10 ≤ n = two_digits j n (h.2 (omega arith)) in
    let d : n / 10 < n = div-lt_self (omega arith) (omega arith) in
    rw (le-ltb n 10 t, glyph_digit (n % 10) (low_digit n), digits_decimal (suc j) f (n / 10) (omega arith) (fewer j n h))

pub decimal_of_law : (k n : ℕ) → IsDigitCount 10 1 n k → last_digits 10 k n ≡ decimal n
unfolding decimal
decimal_of_law k n h = digits_decimal k (suc n) n (omega arith) h

-- A number of 64 bits has twenty digits at most.
pub few_digits : (n k : ℕ) → n < 0x1_0000_0000_0000_0000 → IsDigitCount 10 1 n k → k ≤ 20
few_digits n k b h =
    split (leb k 20) (leb-true k 20)
    (λ (e : leb k 20 ≡ false).
    let w : 20 < k = leb-false k 20 e in
    let a : 10 ^ (k - 1) ≤ n = h.2 (omega arith) in
    let c : 10 ^ 20 ≤ 10 ^ (k - 1) = pow-le-pow_right {n = 10} (omega arith) {i = 20} {j = k - 1} (omega arith) in
    absurd (omega arith))
