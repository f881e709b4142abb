-- The mark at a place of a slice, by the byte there and the next one.
use Prim.Native.Nat.{ℕ, suc, ◌+◌, ◌≤◌, ◌<◌}
use mathlib.Core.List.{List, [], ◌∷◌}
use mathlib.Core.Path.{◌≡◌, ◌∙◌}
use native.Mathlib.Numerals.{add-one}
use native.Mathlib.Omega.{arith}
use lib.ListN.{length, drop, get_or, drop_of_length-le}
use lib.Seq.{drop-cons}
use Rattle.depfile.specs.Depfile.{newline_byte, space_byte, hash_byte, dollar_byte, backslash_byte, Mark, byte, gap, line, lone, marks_of}
use Rattle.depfile.proofs.Marks.{marks_byte, marks_space, marks_newline, marks_joined, marks_escaped_space, marks_escaped_hash, marks_dollars, marks_backslash, marks_lone, marks_last_backslash, marks_last_dollar, marks_end, marks_some}
use Rattle.scan_depfile.specs.Answers.{NextMark}

byte_at : (s : List ℕ) (i : ℕ) → i < length s → drop i s ≡ get_or s i 0 ∷ drop (i + 1) s
byte_at s i h = rw (add-one, drop-cons s i 0 h)

end_at_law : (s : List ℕ) (i : ℕ) → length s ≤ i → drop i s ≡ []
end_at_law s i h = drop_of_length-le s {i = i} h

pub no_marks : (s : List ℕ) (i : ℕ) → length s ≤ i → marks_of (drop i s) ≡ []
no_marks s i h = rw (end_at_law s i h) marks_end

pub some_mark : (s : List ℕ) (i : ℕ) → i < length s → marks_of (drop i s) ≡ [] → ⊥
some_mark s i h e = marks_some (get_or s i 0) (drop (i + 1) s) (rw (byte_at s i h) at e)

module _ (s : List ℕ) (i : ℕ) (h : i < length s) where
  one : {m : Mark} → marks_of (get_or s i 0 ∷ drop (i + 1) s) ≡ m ∷ marks_of (drop (i + 1) s) → NextMark s i m (i + 1)
  one e = record { forward = omega arith; within = omega arith; marks = rw (byte_at s i h) e }

  -- ---- a byte alone

  pub space_here : get_or s i 0 ≡ space_byte → NextMark s i gap (i + 1)
  space_here e = one (rw e (marks_space (drop (i + 1) s)))

  pub newline_here : get_or s i 0 ≡ newline_byte → NextMark s i line (i + 1)
  newline_here e = one (rw e (marks_newline (drop (i + 1) s)))

  pub byte_here : (get_or s i 0 ≡ backslash_byte → ⊥) → (get_or s i 0 ≡ dollar_byte → ⊥) → (get_or s i 0 ≡ space_byte → ⊥) → (get_or s i 0 ≡ newline_byte → ⊥) → NextMark s i (byte (get_or s i 0)) (i + 1)
  byte_here a b c d = one (marks_byte (get_or s i 0) (drop (i + 1) s) a b c d)

  -- ---- by the next byte

  module _ (l : length s ≤ i + 1) where
    pub last_backslash : get_or s i 0 ≡ backslash_byte → NextMark s i (byte backslash_byte) (i + 1)
    last_backslash e = one (rw (e, end_at_law s (i + 1) l) (marks_last_backslash ∙ rw marks_end))

    pub last_dollar : get_or s i 0 ≡ dollar_byte → NextMark s i lone (suc i)
    last_dollar e = rw (← (add-one i)) (one (rw (e, end_at_law s (i + 1) l) (marks_last_dollar ∙ rw marks_end)))

  module _ (l : i + 1 < length s) where
    two : {m : Mark} → marks_of (get_or s i 0 ∷ get_or s (i + 1) 0 ∷ drop (i + 1 + 1) s) ≡ m ∷ marks_of (drop (i + 1 + 1) s) → NextMark s i m (i + 1 + 1)
    two e = record { forward = omega arith; within = omega arith; marks = rw (byte_at s i h, byte_at s (i + 1) l) e }

    first : {m : Mark} → marks_of (get_or s i 0 ∷ get_or s (i + 1) 0 ∷ drop (i + 1 + 1) s) ≡ m ∷ marks_of (get_or s (i + 1) 0 ∷ drop (i + 1 + 1) s) → NextMark s i m (i + 1)
    first e = one (rw (byte_at s (i + 1) l) e)

    module _ (b : get_or s i 0 ≡ backslash_byte) where
      pub joined_here : get_or s (i + 1) 0 ≡ newline_byte → NextMark s i gap (i + 1 + 1)
      joined_here e = two (rw (b, e) (marks_joined (drop (i + 1 + 1) s)))

      pub escaped_space : get_or s (i + 1) 0 ≡ space_byte → NextMark s i (byte (get_or s (i + 1) 0)) (i + 1 + 1)
      escaped_space e = two (rw (b, e) (marks_escaped_space (drop (i + 1 + 1) s)))

      pub escaped_hash : get_or s (i + 1) 0 ≡ hash_byte → NextMark s i (byte (get_or s (i + 1) 0)) (i + 1 + 1)
      escaped_hash e = two (rw (b, e) (marks_escaped_hash (drop (i + 1 + 1) s)))

      pub backslash_here : (get_or s (i + 1) 0 ≡ newline_byte → ⊥) → (get_or s (i + 1) 0 ≡ space_byte → ⊥) → (get_or s (i + 1) 0 ≡ hash_byte → ⊥) → NextMark s i (byte backslash_byte) (i + 1)
      backslash_here p q r = first (rw b (marks_backslash (get_or s (i + 1) 0) (drop (i + 1 + 1) s) p q r))

    module _ (b : get_or s i 0 ≡ dollar_byte) where
      pub dollars_here : get_or s (i + 1) 0 ≡ dollar_byte → NextMark s i (byte (get_or s (i + 1) 0)) (i + 1 + 1)
      dollars_here e = two (rw (b, e) (marks_dollars (drop (i + 1 + 1) s)))

      pub lone_here : (get_or s (i + 1) 0 ≡ dollar_byte → ⊥) → NextMark s i lone (suc i)
      lone_here p = rw (← (add-one i)) (first (rw b (marks_lone (get_or s (i + 1) 0) (drop (i + 1 + 1) s) p)))
