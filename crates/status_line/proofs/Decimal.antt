-- A number in decimal, digit by digit, and the texts that are made of them.
use Prim.Native.Nat.{ℕ, zero, suc, ◌/◌, ◌≤◌, ◌<◌}
use native.Mathlib.Nat.{div-lt_self}
use native.Mathlib.Omega.{arith}
use mathlib.Core.Bool.{true, false}
use mathlib.Core.List.{List, [], ◌∷◌, ◌++◌}
use mathlib.Core.Path.{◌≡◌, refl, sym, subst}
use borrow.Author.Tests.{lt-ltb, le-ltb, ltb-false}
use lib.Dec.{ltb}
use Rattle.lists.specs.Tests.{split}
use Rattle.spec.specs.Limits.{max_text}
use Rattle.text_buffer.specs.Puts.{PutsText}
use Rattle.text_buffer.proofs.Parts.{puts_then, puts_over}
use Rattle.status_line.specs.declared.StatusPiece.{StatusPiece}
use Rattle.status_line.specs.declared.StatusPiece.TheVariants.{Number, Tenths, Seconds, Byte}
use Rattle.status_line.specs.Pieces.{digit_of, decimal_within, decimal_of, tenths_text, seconds_text, piece_text}

-- any bound will do that is above the number
enough : (f g n : ℕ) → n < f → n < g → decimal_within f n ≡ decimal_within g n
unfolding decimal_within
enough zero g n h k = absurd (omega arith)
enough (suc f) zero n h k = absurd (omega arith)
enough (suc f) (suc g) n h k =
    split (ltb n 10) (λ (e : ltb n 10 ≡ true). rw e)
    (λ (e : ltb n 10 ≡ false).
    let t : 10 ≤ n = ltb-false n 10 e in
    let d : n / 10 < n = div-lt_self (omega arith) (omega arith) in
    rw (e, enough f g (n / 10) (omega arith) (omega arith)))

pub decimal_one : (n : ℕ) → n < 10 → decimal_of n ≡ digit_of n ∷ []
unfolding decimal_of
decimal_one n h = rw (lt-ltb n 10 h)

pub decimal_more : (n : ℕ) → 10 ≤ n → decimal_of n ≡ decimal_of (n / 10) ++ (digit_of n ∷ [])
unfolding decimal_of
decimal_more n h =
    let d : n / 10 < n = div-lt_self (omega arith) (omega arith) in
    rw (le-ltb n 10 h, enough n (suc (n / 10)) (n / 10) d (omega arith))

-- ---- a text of which the first part is over the limit
pub after_over : (u : List ℕ) {l s before mid : List ℕ} {place q : ℕ} → l ≡ s ++ u → PutsText before place s mid q → max_text < q → PutsText before place l mid q
after_over u {l} {s} {before} {mid} {place} {q} e p h = subst (λ (x : List ℕ). PutsText before place x mid q) (sym e) (puts_over p h u)

-- ---- digits behind a number
pub tenths_is : (n : ℕ) → tenths_text n ≡ decimal_of (n / 10) ++ (46 ∷ digit_of n ∷ [])
unfolding tenths_text
tenths_is n = refl

pub seconds_is : (n : ℕ) → seconds_text n ≡ decimal_of (n / 1000) ++ (46 ∷ digit_of (n / 100) ∷ digit_of (n / 10) ∷ digit_of n ∷ [])
unfolding seconds_text
seconds_is n = refl

pub tenths_on : (n : ℕ) {d : ℕ} {before mid after : List ℕ} {place q r : ℕ} → d ≡ digit_of n → PutsText before place (decimal_of (n / 10)) mid q → q ≤ max_text
    → PutsText mid q (46 ∷ d ∷ []) after r → PutsText before place (tenths_text n) after r
tenths_on n {d} {before} {mid} {after} {place} {q} {r} e p h t =
    subst (λ (x : List ℕ). PutsText before place x after r) (sym (tenths_is n)) (puts_then p h (subst (λ (k : ℕ). PutsText mid q (46 ∷ k ∷ []) after r) e t))

pub seconds_on : (n : ℕ) {a b d : ℕ} {before mid after : List ℕ} {place q r : ℕ} → a ≡ digit_of (n / 100) → b ≡ digit_of (n / 10) → d ≡ digit_of n
    → PutsText before place (decimal_of (n / 1000)) mid q → q ≤ max_text → PutsText mid q (46 ∷ a ∷ b ∷ d ∷ []) after r → PutsText before place (seconds_text n) after r
seconds_on n {a} {b} {d} {before} {mid} {after} {place} {q} {r} ea eb ed p h t =
    subst (λ (x : List ℕ). PutsText before place x after r) (sym (seconds_is n))
    (puts_then p h (rw (ea, eb, ed) at t))

-- ---- the highest digits, then the lowest
pub last_digit : (n : ℕ) {d : ℕ} {before mid after : List ℕ} {place q r : ℕ} → 10 ≤ n → d ≡ digit_of n → PutsText before place (decimal_of (n / 10)) mid q → q ≤ max_text
    → PutsText mid q (d ∷ []) after r → PutsText before place (decimal_of n) after r
last_digit n {d} {before} {mid} {after} {place} {q} {r} t e p h k =
    subst (λ (x : List ℕ). PutsText before place x after r) (sym (decimal_more n t)) (puts_then p h (subst (λ (x : ℕ). PutsText mid q (x ∷ []) after r) e k))

pub only_digit : (n : ℕ) {d : ℕ} {before after : List ℕ} {place r : ℕ} → n < 10 → d ≡ digit_of n → PutsText before place (d ∷ []) after r → PutsText before place (decimal_of n) after r
only_digit n {d} {before} {after} {place} {r} t e k =
    subst (λ (x : List ℕ). PutsText before place x after r) (sym (decimal_one n t)) (subst (λ (x : ℕ). PutsText before place (x ∷ []) after r) e k)

-- ---- by the piece
module _ {p : StatusPiece} {before after : List ℕ} {place r : ℕ} where
  pub piece_number : {n : ℕ} → p ≡ Number n → PutsText before place (decimal_of n) after r → PutsText before place (piece_text p) after r
  unfolding piece_text
  piece_number e h = subst (λ (x : StatusPiece). PutsText before place (piece_text x) after r) (sym e) h

  pub piece_tenths : {n : ℕ} → p ≡ Tenths n → PutsText before place (tenths_text n) after r → PutsText before place (piece_text p) after r
  unfolding piece_text
  piece_tenths e h = subst (λ (x : StatusPiece). PutsText before place (piece_text x) after r) (sym e) h

  pub piece_seconds : {n : ℕ} → p ≡ Seconds n → PutsText before place (seconds_text n) after r → PutsText before place (piece_text p) after r
  unfolding piece_text
  piece_seconds e h = subst (λ (x : StatusPiece). PutsText before place (piece_text x) after r) (sym e) h

  pub piece_byte : {b : ℕ} → p ≡ Byte b → PutsText before place (b ∷ []) after r → PutsText before place (piece_text p) after r
  unfolding piece_text
  piece_byte e h = subst (λ (x : StatusPiece). PutsText before place (piece_text x) after r) (sym e) h
