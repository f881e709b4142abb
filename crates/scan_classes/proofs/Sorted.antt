-- What the class of a byte says of it: each test of a byte is a test of its class.
use Prim.Native.Nat.{ℕ, ◌≤◌, ◌<◌}
use mathlib.Core.Bool.{Bool, true, false, not}
use mathlib.Core.Path.{◌≡◌, refl, sym, ◌∙◌, ap}
use native.Mathlib.Omega.{arith}
use borrow.Author.Tests.{ltb-true, ltb-false, le-leb, lt-leb, eq-eqb, eqb-true, ne_eqb, not-true}
use lib.Dec.{eqb, ltb, lit<}
use Rattle.lists.specs.Tests.{split}
use Rattle.spec.specs.Bytes.{newline, space, hash, dollar, dot, colon, equals, open_brace, bar, close_brace, between, letter, digit, short_byte, name_byte, forbidden, class_of}
use Rattle.scan_classes.specs.Table.{classes, class_up_to}
use Rattle.scan_classes.proofs.Entries.{every, every_at, table_right}

-- ---- tests of bytes that are tests of their classes

unfoldable same : Bool → Bool → Bool
same true b = b
same false b = not b

same_eq : (a b : Bool) → same a b ≡ true → a ≡ b
unfolding same
same_eq true b e = sym e
same_eq false b e = sym (not-true b e)

-- a number past the table has no class of its own
module _ (b : ℕ) (h : 256 ≤ b) where
  high_eqb : (k : ℕ) → k < 256 → eqb b k ≡ false
  high_eqb k l = ne_eqb b k (λ e. omega arith)

  high_between : (a z : ℕ) → a < 256 → z < 256 → between a z b ≡ false
  unfolding between
  high_between a z ha hz = rw (le-leb a b (omega arith), lt-leb b z (omega arith))

  high_short : short_byte b ≡ false
  unfolding short_byte letter digit
  high_short =
      rw (high_between 65 90 (lit< tt) (lit< tt), high_between 97 122 (lit< tt) (lit< tt), high_between 48 57 (lit< tt) (lit< tt), high_eqb 95 (lit< tt), high_eqb 45 (lit< tt))

  high_name : name_byte b ≡ false
  unfolding name_byte
  high_name = rw (high_short, high_eqb dot (lit< tt))

  high_forbidden : forbidden b ≡ false
  unfolding forbidden
  high_forbidden = rw (high_eqb 0 (lit< tt), high_eqb 9 (lit< tt), high_eqb 13 (lit< tt))

  high_class : class_of b ≡ 0
  unfolding class_of
  high_class =
      rw (high_short, high_eqb dot (lit< tt), high_eqb space (lit< tt), high_eqb newline (lit< tt), high_eqb dollar (lit< tt), high_eqb colon (lit< tt), high_eqb bar (lit< tt), high_eqb equals (lit< tt), high_eqb hash (lit< tt), high_eqb open_brace (lit< tt), high_eqb close_brace (lit< tt), high_forbidden)

-- The tests f of a byte and g of its class agree at each entry of the table, and past it.
agree : (f g : ℕ → Bool) → every (λ b c. same (f b) (g c)) 0 classes ≡ true → ((b : ℕ) → 256 ≤ b → f b ≡ false) → g 0 ≡ false → (b : ℕ) → f b ≡ g (class_of b)
unfolding classes
agree f g t far none b =
    split (ltb b 256)
    (λ (e : ltb b 256 ≡ true).
    let h : b < 256 = ltb-true b 256 e in
    same_eq (f b) (g (class_of b)) (rw (table_right b h) at (every_at (λ b c. same (f b) (g c)) classes t b h)))
    (λ (e : ltb b 256 ≡ false).
    let h : 256 ≤ b = ltb-false b 256 e in
    far b h ∙ sym (ap g (high_class b h) ∙ none))

-- what class c says of byte b
pub record Sorted (b c : ℕ) : Type 0 where
  pub short : short_byte b ≡ eqb c 1
  pub short_range : short_byte b ≡ class_up_to 1 c
  pub name_range : name_byte b ≡ class_up_to 2 c
  pub space : eqb b space ≡ eqb c 3
  pub newline : eqb b newline ≡ eqb c 4
  pub dollar : eqb b dollar ≡ eqb c 5
  pub colon : eqb b colon ≡ eqb c 6
  pub bar : eqb b bar ≡ eqb c 7
  pub equals : eqb b equals ≡ eqb c 8
  pub hash : eqb b hash ≡ eqb c 9
  pub open_brace : eqb b open_brace ≡ eqb c 10
  pub close_brace : eqb b close_brace ≡ eqb c 11
  pub forbidden : forbidden b ≡ eqb c 12

pub sorted : (b : ℕ) → Sorted b (class_of b)
unfolding classes every same class_up_to between letter digit short_byte name_byte forbidden
sorted b =
    record {
      short = agree short_byte (λ c. eqb c 1) refl high_short refl b;
      short_range = agree short_byte (class_up_to 1) refl high_short refl b;
      name_range = agree name_byte (class_up_to 2) refl high_name refl b;
      space = one space 3 (lit< tt) refl refl;
      newline = one newline 4 (lit< tt) refl refl;
      dollar = one dollar 5 (lit< tt) refl refl;
      colon = one colon 6 (lit< tt) refl refl;
      bar = one bar 7 (lit< tt) refl refl;
      equals = one equals 8 (lit< tt) refl refl;
      hash = one hash 9 (lit< tt) refl refl;
      open_brace = one open_brace 10 (lit< tt) refl refl;
      close_brace = one close_brace 11 (lit< tt) refl refl;
      forbidden = agree forbidden (λ c. eqb c 12) refl high_forbidden refl b;
    }
  where
    one : (k n : ℕ) → k < 256 → every (λ b c. same (eqb b k) (eqb c n)) 0 classes ≡ true → eqb 0 n ≡ false → eqb b k ≡ eqb (class_of b) n
    one k n l t z = agree (λ b. eqb b k) (λ c. eqb c n) t (λ b h. high_eqb b h k l) z b

-- ---- a byte that has a class x of its own, told by the class c

module _ {b c x k : ℕ} (own : eqb b k ≡ eqb (class_of b) x) (is : c ≡ class_of b) where
  pub in_class : c ≡ x → b ≡ k
  in_class e = eqb-true b k (own ∙ eq-eqb (class_of b) x (sym is ∙ e))

  pub not_in_class : (c ≡ x → ⊥) → b ≡ k → ⊥
  not_in_class n e = n (is ∙ eqb-true (class_of b) x (sym own ∙ eq-eqb b k e))
