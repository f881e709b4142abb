-- Where a line lies in the manifest.
use Rattle.std.specs.Prelude.{ℕ, ◌≤◌, ◌<◌, Bool, true, ◌&&◌, List, ◌∷◌, ◌≡◌, ltb, length, drop}
use Rattle.lists.specs.Parts.{part}
use Rattle.spec.specs.Lines.{Line, is_comment}
use Rattle.scan_lines.specs.Endings.{lines_at}
use Rattle.scan_cursor.specs.declared.LineBounds.{LineBounds}

-- a line of the manifest by its start, its bytes without the newline that ends it, and whether such a newline is there
abbrev pub line_of : ℕ → List ℕ → Bool → Line
line_of at s b = record { start = at; text = s; ended = b }

-- the line of the manifest from place i up to place e: what does not reach to the manifest's end, a newline ends
abbrev pub line_in : List ℕ → ℕ → ℕ → Line
line_in m i e = line_of i (part m i e) (ltb e (length m))

-- a comment, with its newline
abbrev pub is_passed : Line → Bool
is_passed l = is_comment l.text && l.ended

-- The line that starts at place i, and the lines behind it.
pub record LineSpan (m : List ℕ) (i : ℕ) (s : LineBounds) : Type 0 where
  pub forward : i ≤ s.end
  pub on : i < s.next
  pub lines : lines_at i (drop i m) ≡ line_in m i s.end ∷ lines_at s.next (drop s.next m)
  pub comment : s.comment ≡ is_passed (line_in m i s.end)

-- The line that starts at place i, or the manifest's end.
pub record LineHere (m : List ℕ) (i : ℕ) (s : LineBounds) : Type 0 where
  pub starts : s.start ≡ i
  pub within : s.end ≤ length m
  pub most : s.next ≤ length m
  pub span : i < length m → LineSpan m i s
  pub past : s.comment ≡ true → i < s.next
