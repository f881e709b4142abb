-- The walk that writes the line, one byte of the format after another.
use Prim.Native.Nat.{ℕ, suc, ◌+◌, ◌≤◌, ◌<◌}
use native.Mathlib.Nat.{le_antisymm}
use native.Mathlib.Numerals.{add-one}
use native.Mathlib.Omega.{arith}
use mathlib.Core.Bool.{Bool, true, false}
use mathlib.Core.List.{List, [], ◌∷◌, ◌++◌, append-nil, append_assoc}
use mathlib.Core.Path.{◌≡◌, refl, sym, ap, ◌∙◌, subst}
use borrow.Author.Tests.{eq-eqb, ne_eqb}
use lib.ListN.{length, drop, get_or}
use lib.Seq.{drop-cons, drop-length}
use Rattle.spec.specs.Limits.{max_text}
use Rattle.text_buffer.specs.Puts.{OpenText, PutsText}
use Rattle.text_buffer.proofs.Parts.{puts_none, puts_then, puts_over}
use Rattle.status_record.specs.declared.Status.{Status}
use Rattle.status_line.specs.declared.StatusPiece.{StatusPiece}
use Rattle.status_line.specs.Pieces.{piece_of, piece_text}
use Rattle.status_line.specs.Line.{next_state, element_text, line_from}

-- what the first i bytes of the format give is written
pub record Lining (s : Status) (format before buffer : List ℕ) (n i : ℕ) (after : Bool) : Type 0 where
  pub within : i ≤ length format
  pub low : n ≤ max_text
  pub done : List ℕ
  pub puts : PutsText before 0 done buffer n
  pub rest : line_from s false format ≡ done ++ line_from s after (drop i format)

pub line_begin : (s : Status) (format : List ℕ) {before : List ℕ} → OpenText before 0 → Lining s format before before 0 0 false
line_begin s format o = record { within = omega arith; low = omega arith; done = []; puts = puts_none o; rest = refl }

step : (s : Status) (a : Bool) (b : ℕ) (l : List ℕ) → line_from s a (b ∷ l) ≡ element_text s a b ++ line_from s (next_state a b) l
unfolding line_from
step s a b l = refl

ended : (s : Status) (a : Bool) → line_from s a [] ≡ []
unfolding line_from
ended s a = refl

module _ {s : Status} {format before buffer : List ℕ} {n i : ℕ} {a : Bool} (h : Lining s format before buffer n i a) where
  module _ (l : i < length format) {buffer' : List ℕ} {r : ℕ} (p : PutsText buffer n (element_text s a (get_or format i 0)) buffer' r) where
    more : line_from s false format ≡ (h.done ++ element_text s a (get_or format i 0)) ++ line_from s (next_state a (get_or format i 0)) (drop (suc i) format)
    more =
        h.rest ∙ ap (λ (x : List ℕ). h.done ++ line_from s a x) (drop-cons format i 0 l)
        ∙ ap (λ (x : List ℕ). h.done ++ x) (step s a (get_or format i 0) (drop (suc i) format))
        ∙ sym (append_assoc h.done (element_text s a (get_or format i 0)) (line_from s (next_state a (get_or format i 0)) (drop (suc i) format)))

    pub line_on : {b : Bool} → r ≤ max_text → b ≡ next_state a (get_or format i 0) → Lining s format before buffer' r (i + 1) b
    line_on {b} k e =
        record {
          within = omega arith;
          low = k;
          done = h.done ++ element_text s a (get_or format i 0);
          puts = puts_then h.puts h.low p;
          rest = more ∙ ap (λ (c : Bool). (h.done ++ element_text s a (get_or format i 0)) ++ line_from s c (drop (suc i) format)) (sym e)
              ∙ ap (λ (j : ℕ). (h.done ++ element_text s a (get_or format i 0)) ++ line_from s b (drop j format)) (sym (add-one i));
        }

    pub line_over : max_text < r → PutsText before 0 (line_from s false format) buffer' r
    line_over k =
        subst (λ (x : List ℕ). PutsText before 0 x buffer' r) (sym more)
        (puts_over (puts_then h.puts h.low p) k (line_from s (next_state a (get_or format i 0)) (drop (suc i) format)))

  pub line_end_law : length format ≤ i → PutsText before 0 (line_from s false format) buffer n
  line_end_law l =
      subst (λ (x : List ℕ). PutsText before 0 x buffer n)
      (sym (h.rest ∙ ap (λ (x : List ℕ). h.done ++ line_from s a x) (ap (λ (k : ℕ). drop k format) (le_antisymm h.within l) ∙ drop-length format) ∙ ap (λ (x : List ℕ). h.done ++ x) (ended s a) ∙ append-nil h.done))
      h.puts

  pub line_open : OpenText before 0 → OpenText buffer n
  line_open o = record { room = subst (λ (k : ℕ). max_text ≤ k) (sym h.puts.long) o.room; low = h.low }

-- ---- what one byte of the format adds
pub element_piece : (s : Status) (b : ℕ) {a : Bool} {p : StatusPiece} {before after : List ℕ} {place r : ℕ} → a ≡ true → p ≡ piece_of s b → PutsText before place (piece_text p) after r
    → PutsText before place (element_text s a b) after r
unfolding element_text
element_piece s b {before = before} {after} {place} {r} t e h = rw t (subst (λ (x : StatusPiece). PutsText before place (piece_text x) after r) e h)

pub element_none : (s : Status) {b : ℕ} {a : Bool} {before : List ℕ} {place : ℕ} → a ≡ false → b ≡ 37 → OpenText before place → PutsText before place (element_text s a b) before place
unfolding element_text
element_none s {b} t e o = rw (t, eq-eqb b 37 e) (puts_none o)

pub element_byte : (s : Status) {b : ℕ} {a : Bool} {before after : List ℕ} {place r : ℕ} → a ≡ false → (b ≡ 37 → ⊥) → PutsText before place (b ∷ []) after r
    → PutsText before place (element_text s a b) after r
unfolding element_text
element_byte s {b} t e h = rw (t, ne_eqb b 37 e) h
