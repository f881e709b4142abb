-- The end of a line: a turn of each loop that looks for it, and what it says of the line and of the lines after it.
use Prim.Native.Nat.{ℕ, suc, ◌+◌, ◌-◌, ◌≤◌, ◌<◌}
use mathlib.Core.Bool.{Bool, true, false}
use mathlib.Core.List.{List, [], ◌∷◌, ◌++◌}
use mathlib.Core.Option.{none, some}
use mathlib.Core.Path.{◌≡◌, refl, sym, ◌∙◌, ap}
use native.Mathlib.Nat.{le_trans}
use native.Mathlib.Numerals.{add-one}
use native.Mathlib.Omega.{arith}
use borrow.Author.Tests.{eqb-true, eqb-false, ne_eqb}
use lib.Dec.{eqb}
use lib.ListN.{length, take, drop, get_or, length-drop, length-append}
use lib.Seq.{take_at}
use Rattle.lists.specs.Tests.{split, differ}
use Rattle.lists.specs.Parts.{part}
use Rattle.lists.specs.Runs.{Reads, after_run, run_stops}
use Rattle.spec.specs.Bytes.{newline, space, hash, dollar}
use Rattle.spec.specs.Lines.{At, indent, comment, body, escape, line_turn, ends_line, with_byte, lines_from, is_space, starts_with, is_comment}
use Rattle.scan_lines.specs.declared.LineEnd.{LineEnd}
use Rattle.scan_lines.specs.declared.LineEnd.TheVariants.{Ended, Comment as CommentEnded, Open}
use Rattle.scan_lines.specs.Endings.{lines_at, end_from, EndsAt, EndAt, LineEnded, EndedAs, open_line, LineOpen, LineAt}
use Rattle.scan_tokens.proofs.Places.{Going, going_on, at_cons, at_end}

-- ---- one byte, or an escape

end_newline : (q : At) (s : List ℕ) → ends_line q newline ≡ true → end_from q (newline ∷ s) ≡ some s
unfolding end_from
end_newline q s e = rw e

end_comment : (b : ℕ) (s : List ℕ) → (b ≡ newline → ⊥) → end_from comment (b ∷ s) ≡ end_from comment s
unfolding end_from ends_line line_turn
end_comment b s h = rw (ne_eqb b newline h)

end_byte : (b : ℕ) (s : List ℕ) → (b ≡ newline → ⊥) → (b ≡ dollar → ⊥) → end_from body (b ∷ s) ≡ end_from body s
unfolding end_from ends_line line_turn
end_byte b s h k = rw (ne_eqb b newline h, ne_eqb b dollar k)

end_escape : (b : ℕ) (s : List ℕ) → end_from body (dollar ∷ b ∷ s) ≡ end_from body s
unfolding end_from ends_line line_turn
end_escape b s = refl

end_dollar : end_from body (dollar ∷ []) ≡ none
unfolding end_from ends_line line_turn
end_dollar = refl

-- ---- the first byte that is no space

run_none : (b : ℕ) (s : List ℕ) → eqb b space ≡ false → after_run is_space (b ∷ s) ≡ b ∷ s
unfolding after_run
run_none b s e = rw e

end_spaces : (s : List ℕ) → end_from indent s ≡ end_from indent (after_run is_space s)
unfolding end_from ends_line line_turn after_run
end_spaces [] = refl
end_spaces (b ∷ s) =
    split (eqb b space)
    (λ (e : eqb b space ≡ true). let d : b ≡ space = eqb-true b space e in rw d (end_spaces s))
    (λ (e : eqb b space ≡ false). ap (end_from indent) (sym (run_none b s e)))

end_hash : (s : List ℕ) → end_from indent (hash ∷ s) ≡ end_from comment (hash ∷ s)
unfolding end_from ends_line line_turn
end_hash s = refl

end_other : (b : ℕ) (s : List ℕ) → (b ≡ space → ⊥) → (b ≡ hash → ⊥) → end_from indent (b ∷ s) ≡ end_from body (b ∷ s)
unfolding end_from ends_line line_turn
end_other b s h k = rw (ne_eqb b space h, ne_eqb b hash k)

-- ---- at a place of the manifest

module _ (q : At) {m : List ℕ} {i j : ℕ} (a : Going (end_from q) m i j) where
  pub open_end : length m ≤ j → end_from q (drop i m) ≡ none
  unfolding end_from
  open_end h = a.same ∙ rw (at_end m j h)

  pub line_ends : ends_line q newline ≡ true → j < length m → get_or m j 0 ≡ newline → EndsAt q m i j
  line_ends e h n =
      record { forward = a.forward; within = h; rest = a.same ∙ rw (at_cons m j h, n) (end_newline q _ e) }

pub comment_more : {m : List ℕ} {i j : ℕ} → Going (end_from comment) m i j → j < length m → (get_or m j 0 ≡ newline → ⊥) → Going (end_from comment) m i (j + 1)
comment_more {m} {i} {j} a h n = going_on a (omega arith) (omega arith) (rw (at_cons m j h) (end_comment _ _ n))

module _ {m : List ℕ} {i j : ℕ} (a : Going (end_from body) m i j) (h : j < length m) where
  pub body_more : (get_or m j 0 ≡ newline → ⊥) → (get_or m j 0 ≡ dollar → ⊥) → Going (end_from body) m i (j + 1)
  body_more n d = going_on a (omega arith) (omega arith) (rw (at_cons m j h) (end_byte _ _ n d))

  pub body_escape : get_or m j 0 ≡ dollar → j + 1 < length m → Going (end_from body) m i (j + 2)
  body_escape d l =
      let z : j + 1 + 1 ≡ j + 2 = omega arith in
      going_on a (omega arith) (omega arith) (rw (at_cons m j h, d, at_cons m (j + 1) l, z) (end_escape _ _))

  pub body_dollar : get_or m j 0 ≡ dollar → length m ≤ j + 1 → end_from body (drop i m) ≡ none
  body_dollar d l = a.same ∙ rw (at_cons m j h, d, at_end m (j + 1) l) end_dollar

-- ---- what the end says of the line and of those after it

ends_newline : (q : At) (b : ℕ) → ends_line q b ≡ true → b ≡ newline
unfolding ends_line
ends_newline indent b t = eqb-true b newline t
ends_newline comment b t = eqb-true b newline t
ends_newline body b t = eqb-true b newline t
ends_newline escape b t = differ t refl

-- the line has these bytes and is ended, and then come the lines of r
pub record Splits (q : At) (at : ℕ) (s r : List ℕ) : Type 0 where
  pub text : List ℕ
  pub is : text ++ (newline ∷ r) ≡ s
  pub lines : lines_from q at s ≡ record { start = at; text = text; ended = true } ∷ lines_from indent (at + suc (length text)) r

line_split : (q : At) (at : ℕ) (s r : List ℕ) → end_from q s ≡ some r → Splits q at s r
unfolding end_from lines_from with_byte
line_split q at [] r e = absurd (let z : true ≡ false = cc in differ refl z)
line_split q at (b ∷ s) r e =
    split (ends_line q b)
    (λ (t : ends_line q b ≡ true).
    let d : s ≡ r = let f : some s ≡ some r = rw t at e in cc in
    let z : at + 1 ≡ suc at = add-one at in
    record { text = []; is = rw (ends_newline q b t, d); lines = rw (t, d, z) })
    (λ (t : ends_line q b ≡ false).
    let w : Splits (line_turn q b) (suc at) s r = line_split (line_turn q b) (suc at) s r (rw t at e) in
    let z : at + suc (suc (length w.text)) ≡ suc at + suc (length w.text) = omega arith in
    record {
      text = b ∷ w.text;
      is = ap (λ (l : List ℕ). b ∷ l) w.is;
      lines = rw t (ap (with_byte at b) w.lines ∙ ap (λ (n : ℕ). record { start = at; text = b ∷ w.text; ended = true } ∷ lines_from indent n r) (sym z));
    })

open_lines : (q : At) (at : ℕ) (s : List ℕ) → end_from q s ≡ none → lines_from q at s ≡ open_line at s
unfolding end_from lines_from with_byte open_line
open_lines q at [] e = refl
open_lines q at (b ∷ s) e =
    split (ends_line q b) (λ (t : ends_line q b ≡ true). let f : some s ≡ none = rw t at e in cc)
    (λ (t : ends_line q b ≡ false). rw t (ap (with_byte at b) (open_lines (line_turn q b) (suc at) s (rw t at e)) ∙ open_more at b s))
  where
    open_more : (at b : ℕ) (s : List ℕ) → with_byte at b (open_line (suc at) s) ≡ record { start = at; text = b ∷ s; ended = false } ∷ []
    open_more at b [] = refl
    open_more at b (c ∷ s) = refl

-- ---- a line from its start

module _ {m : List ℕ} {i e : ℕ} (a : EndsAt indent m i e) where
  its_split : Splits indent i (drop i m) (drop (e + 1) m)
  its_split = line_split indent i _ _ a.rest

  its_length : length its_split.text ≡ e - i
  its_length = omega (arith, a.forward, a.within, length-drop i m, length-drop (e + 1) m, simp length-append at (ap length its_split.is))

  its_text : its_split.text ≡ part m i e
  its_text = sym (take_at _ _ (e - i) its_length) ∙ ap (take (e - i)) its_split.is

  ended_at : LineEnded m i e
  ended_at =
      let z : i + suc (length its_split.text) ≡ e + 1 = omega (arith, a.forward, its_length) in
      record {
        forward = a.forward;
        within = a.within;
        lines = its_split.lines ∙ rw (z, its_text);
      }

  before_newline : part m i e ++ (newline ∷ drop (e + 1) m) ≡ drop i m
  before_newline = rw (← its_text) its_split.is

open_at : (m : List ℕ) (i : ℕ) → end_from indent (drop i m) ≡ none → LineOpen m i
open_at m i e = record { lines = open_lines indent i (drop i m) e }

-- what is read as far as p at place j is read as far as `indent` at the line's start
module _ (p : At) {m : List ℕ} {i j : ℕ} (h : i ≤ j) (f : end_from indent (drop i m) ≡ end_from p (drop j m)) where
  ends_from_law : {e : ℕ} → EndsAt p m j e → EndsAt indent m i e
  ends_from_law a = record { forward = le_trans h a.forward; within = a.within; rest = f ∙ a.rest }

  open_from : end_from p (drop j m) ≡ none → LineOpen m i
  open_from e = open_at m i (f ∙ e)

-- a line is a comment by its first byte that is no space, and that lies before its end
comment_text : (t r : List ℕ) → is_comment (t ++ (newline ∷ r)) ≡ is_comment t
unfolding is_comment starts_with after_run
comment_text [] r = refl
comment_text (b ∷ t) r =
    split (eqb b space)
    (λ (d : eqb b space ≡ true). rw d (comment_text t r))
    (λ (d : eqb b space ≡ false). rw d)

-- whether the line that ends at e is a comment, its bytes to the manifest's end say
comment_as : {c : Bool} {m : List ℕ} {i e : ℕ} → EndsAt indent m i e → is_comment (drop i m) ≡ c → EndedAs c m i e
comment_as {m = m} {i = i} {e = e} l h =
    record { line = ended_at l; is = sym (comment_text (part m i e) (drop (e + 1) m)) ∙ ap is_comment (before_newline l) ∙ h }

-- its first byte that is no space stands at k
module _ {m : List ℕ} {i k : ℕ} (a : Reads (after_run is_space) m i k) where
  after_spaces : end_from indent (drop i m) ≡ end_from indent (drop k m)
  after_spaces = end_spaces (drop i m) ∙ ap (end_from indent) (sym a.rest)

  pub line_of_spaces : length m ≤ k → LineOpen m i
  unfolding end_from
  line_of_spaces h = open_at m i (after_spaces ∙ rw (at_end m k h))

  module _ (h : k < length m) where
    module _ (e : get_or m k 0 ≡ hash) where
      from_hash : end_from indent (drop i m) ≡ end_from comment (drop k m)
      from_hash = after_spaces ∙ rw (at_cons m k h, e) (end_hash _)

      comment_here : is_comment (drop i m) ≡ true
      unfolding is_comment starts_with
      comment_here = rw (← a.rest, at_cons m k h, e)

      pub line_of_comment : (r : LineEnd) → EndAt comment m k r → LineAt m i r
      unfolding EndAt LineAt
      line_of_comment (Ended n) f = let z : ◌≡◌ {A = ℕ} 0 1 = let g = f.0 in cc in absurd (omega arith)
      line_of_comment (CommentEnded n) f = comment_as (ends_from_law comment a.forward from_hash f.1) comment_here
      line_of_comment Open f = open_from comment a.forward from_hash f

    module _ (n : get_or m k 0 ≡ hash → ⊥) where
      from_body : end_from indent (drop i m) ≡ end_from body (drop k m)
      from_body =
          let s : get_or m k 0 ≡ space → ⊥ = eqb-false _ _ (run_stops is_space (drop i m) _ _ (sym a.rest ∙ at_cons m k h)) in
          after_spaces ∙ rw (at_cons m k h) (end_other _ _ s n)

      none_here : is_comment (drop i m) ≡ false
      unfolding is_comment starts_with
      none_here = rw (← a.rest, at_cons m k h, ne_eqb _ _ n)

      pub line_of_body : (r : LineEnd) → EndAt body m k r → LineAt m i r
      unfolding EndAt LineAt
      line_of_body (Ended e) f = comment_as (ends_from_law body a.forward from_body f.1) none_here
      line_of_body (CommentEnded e) f = let z : ◌≡◌ {A = ℕ} 0 1 = let g = f.0 in cc in absurd (omega arith)
      line_of_body Open f = open_from body a.forward from_body f

-- ---- the lines of a manifest, one after the other

pub lines_end : (m : List ℕ) (i : ℕ) → length m ≤ i → lines_at i (drop i m) ≡ []
unfolding lines_from
lines_end m i h = rw (at_end m i h)

open_some : (at b : ℕ) (s : List ℕ) → open_line at (b ∷ s) ≡ record { start = at; text = b ∷ s; ended = false } ∷ []
unfolding open_line
open_some at b s = refl

module _ (m : List ℕ) {i : ℕ} (h : i < length m) where
  pub lines_next : {e : ℕ} → LineEnded m i e → lines_at i (drop i m) ≡ record { start = i; text = part m i e; ended = true } ∷ lines_at (e + 1) (drop (e + 1) m)
  lines_next a = a.lines

  pub lines_last : LineOpen m i → lines_at i (drop i m) ≡ record { start = i; text = drop i m; ended = false } ∷ []
  lines_last a = a.lines ∙ rw (at_cons m i h) (open_some i _ _)
