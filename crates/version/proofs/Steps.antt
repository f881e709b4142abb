-- What each byte does to the number under way, and what a caller of `number` learns.
use Rattle.std.specs.Prelude.{Option, Some, None}
use Prim.Native.Nat.{ℕ, ◌+◌, ◌-◌, ◌*◌, ◌≤◌, ◌<◌}
use mathlib.Core.Bool.{true, false}
use mathlib.Core.List.{List, [], ◌∷◌}
use mathlib.Core.Path.{◌≡◌, sym, ◌∙◌, ap}
use native.Mathlib.Numerals.{add-one}
use native.Mathlib.Omega.{arith}
use borrow.Author.Tests.{le-leb, lt-leb, leb-true, eq-eqb, ne_eqb}
use lib.Dec.{leb, eqb}
use lib.ListN.{length, drop, get_or, drop_of_length-le}
use lib.Seq.{drop-cons, drop-length}
use Rattle.lists.specs.Tests.{split, and_left, and_right}
use Rattle.version.specs.Version.{version_dot, version_digit, Number, value, none, in_range, number_from, number}
use Rattle.version.specs.Part.{part_of}

-- The loop's state: n is what the bytes before i give.
pub record Reading (s : List ℕ) (from n i : ℕ) : Type 0 where
  pub small : n ≤ 65535
  pub rest : number (drop from s) ≡ number_from n (drop i s)

pub digit_range : (b : ℕ) → version_digit b ≡ true → (48 ≤ b) × (b ≤ 57)
unfolding version_digit
digit_range b h =
    (leb-true 48 b (and_left (leb 48 b) (leb b 57) h), leb-true b 57 (and_right (leb 48 b) (leb b 57) h))

-- Digits only add to a number that is too great already.
pub too_great : (n : ℕ) (s : List ℕ) → 65535 < n → number_from n s ≡ none
unfolding number_from in_range
too_great n [] h = rw (lt-leb _ _ h)
too_great n (b ∷ s) h =
    split (eqb b version_dot) (λ (e : eqb b version_dot ≡ true). rw (e, lt-leb _ _ h))
    (λ (e : eqb b version_dot ≡ false).
    split (version_digit b)
    (λ (d : version_digit b ≡ true). rw (e, d) (too_great (n * 10 + (b - 48)) s (omega arith)))
    (λ (d : version_digit b ≡ false). rw (e, d)))

pub no_byte : (s : List ℕ) (from : ℕ) → length s ≤ from → number (drop from s) ≡ none
unfolding number
no_byte s from h = rw (drop_of_length-le s {i = from} h)

module _ (s : List ℕ) (from : ℕ) (h : from < length s) where
  pub no_digit : version_digit (get_or s from 0) ≡ false → number (drop from s) ≡ none
  unfolding number
  no_digit d = rw (drop-cons s from 0 h, d)

  pub begin : version_digit (get_or s from 0) ≡ true → Reading s from 0 from
  unfolding number
  begin d = record { small = omega arith; rest = rw (drop-cons s from 0 h, d) }

module _ {s : List ℕ} {from n i : ℕ} (r : Reading s from n i) where
  pub at_end : length s ≤ i → value n (drop (length s) s) ≡ number (drop from s)
  unfolding number_from in_range
  at_end h = rw (r.rest, drop_of_length-le s {i = i} h, drop-length s, le-leb _ _ r.small)

  module _ (h : i < length s) where
    pub at_dot : get_or s i 0 ≡ version_dot → value n (drop i s) ≡ number (drop from s)
    unfolding number_from in_range
    at_dot d = rw (r.rest, drop-cons s i 0 h, eq-eqb _ _ d, le-leb _ _ r.small)

    module _ (d : get_or s i 0 ≡ version_dot → ⊥) where
      pub no_number : version_digit (get_or s i 0) ≡ false → none ≡ number (drop from s)
      unfolding number_from
      no_number e = rw (r.rest, drop-cons s i 0 h, ne_eqb _ _ d, e)

      module _ (e : version_digit (get_or s i 0) ≡ true) where
        step : number (drop from s) ≡ number_from (n * 10 + (get_or s i 0 - 48)) (drop (i + 1) s)
        unfolding number_from
        step = rw (r.rest, add-one, drop-cons s i 0 h, ne_eqb _ _ d, e)

        pub over : 65535 < n * 10 + (get_or s i 0 - 48) → none ≡ number (drop from s)
        over o = sym (step ∙ too_great _ _ o)

        pub more : n * 10 + (get_or s i 0 - 48) ≤ 65535 → Reading s from (n * 10 + (get_or s i 0 - 48)) (i + 1)
        more o = record { small = o; rest = step }

-- What a call of `number` gave, as its caller goes on: no number, the last one, or one with a byte after it.
module _ (s : List ℕ) {p : Option (ℕ × ℕ)} {m : Number} (e : part_of s p ≡ m) where
  pub none_read : p ≡ None → m ≡ none
  unfolding part_of
  none_read q = sym e ∙ ap (part_of s) q

  module _ {n i : ℕ} (q : p ≡ Some (n, i)) where
    pub last_read : length s ≤ i → m ≡ value n []
    unfolding part_of
    last_read h = sym e ∙ ap (part_of s) q ∙ ap (value n) (drop_of_length-le s {i = i} h)

    pub one_read : i < length s → m ≡ value n (get_or s i 0 ∷ drop (i + 1) s)
    unfolding part_of
    one_read h = sym e ∙ ap (part_of s) q ∙ ap (value n) (rw (add-one, drop-cons s i 0 h))
