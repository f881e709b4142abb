-- Where a line ends, and what kind of line it is.
use Rattle.std.specs.Prelude.{ℕ, ◌+◌, ◌≤◌, ◌<◌, Bool, true, false, List, [], ◌∷◌, ◌≡◌, length, drop}
use Rattle.std.proofs.Math.Option.{Option, none, some}
use Rattle.lists.specs.Tests.{if_b}
use Rattle.lists.specs.Parts.{part}
use Rattle.spec.specs.Lines.{At, indent, comment, body, line_turn, ends_line, Line, lines_from, is_comment, is_blank, is_indented}
use Rattle.scan_lines.specs.declared.LineEnd.{LineEnd}
use Rattle.scan_lines.specs.declared.LineEnd.TheVariants.{Ended, Comment as CommentEnded, Open}
use Rattle.scan_lines.specs.declared.LineKind.{LineKind}
use Rattle.scan_lines.specs.declared.LineKind.TheVariants.{Comment, Blank, Indented, Statement}

-- ---- lines

-- the lines from this offset on, with these bytes
abbrev pub lines_at : ℕ → List ℕ → List Line
lines_at at s = lines_from indent at s

-- what follows the newline that ends the present line, if it is ended
unfoldable pub end_from : At → List ℕ → Option (List ℕ)
end_from q [] = none
end_from q (b ∷ s) = if_b (ends_line q b) (λ _. some s) (λ _. end_from (line_turn q b) s)

-- The line that is read as far as q at place i ends with the newline at place e.
pub record EndsAt (q : At) (m : List ℕ) (i e : ℕ) : Type 0 where
  pub forward : i ≤ e
  pub within : e < length m
  pub rest : end_from q (drop i m) ≡ some (drop (e + 1) m)

unfoldable pub EndAt : At → List ℕ → ℕ → LineEnd → Type 0
EndAt q m i (Ended e) = (q ≡ body) × EndsAt q m i e
EndAt q m i (CommentEnded e) = (q ≡ comment) × EndsAt q m i e
EndAt q m i Open = end_from q (drop i m) ≡ none

-- The line that starts at place i ends with the newline at place e, and the next one starts behind it.
pub record LineEnded (m : List ℕ) (i e : ℕ) : Type 0 where
  pub forward : i ≤ e
  pub within : e < length m
  pub lines : lines_at i (drop i m) ≡ record { start = i; text = part m i e; ended = true } ∷ lines_at (e + 1) (drop (e + 1) m)

-- the line that starts at this offset with these bytes, which no newline ends; there is none at the manifest's end
unfoldable pub open_line : ℕ → List ℕ → List Line
open_line at [] = []
open_line at (b ∷ s) = record { start = at; text = b ∷ s; ended = false } ∷ []

-- That line is a comment, or it is none.
pub record EndedAs (c : Bool) (m : List ℕ) (i e : ℕ) : Type 0 where
  pub line : LineEnded m i e
  pub is : is_comment (part m i e) ≡ c

-- The manifest ends inside the line that starts at place i.
pub record LineOpen (m : List ℕ) (i : ℕ) : Type 0 where
  pub lines : lines_at i (drop i m) ≡ open_line i (drop i m)

unfoldable pub LineAt : List ℕ → ℕ → LineEnd → Type 0
LineAt m i (Ended e) = EndedAs false m i e
LineAt m i (CommentEnded e) = EndedAs true m i e
LineAt m i Open = LineOpen m i

-- ---- kinds

-- in the order in which the rules ask
unfoldable pub kind_of : List ℕ → LineKind
kind_of s =
    if_b (is_comment s) (λ _. Comment) λ _.
    if_b (is_blank s) (λ _. Blank) λ _.
    if_b (is_indented s) (λ _. Indented) λ _. Statement
