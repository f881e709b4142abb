-- Joined lines: where each starts, its bytes without the newline that ends it, and whether such a newline is there.
use Rattle.std.specs.Prelude.{ℕ, suc, List, [], ◌∷◌, Bool, true, false, eqb}
use Rattle.lists.specs.Tests.{if_b}
use Rattle.lists.specs.Runs.{after_run}
use Rattle.spec.specs.Basics.{is_empty}
use Rattle.spec.specs.Bytes.{newline, space, hash, dollar}

-- "Every line ends with a newline. `$` before a newline joins the lines." "A line whose first non-space byte is `#` is a comment .. A comment
-- joins nothing." Where the reading of a line stands after its bytes so far.
pub data At : Type 0 where
  -- only spaces so far
  indent : At
  comment : At
  body : At
  -- after a `$` that is not itself escaped
  escape : At

unfoldable pub line_turn : At → ℕ → At
line_turn indent b = if_b (eqb b space) (λ _. indent) λ _. if_b (eqb b hash) (λ _. comment) λ _. if_b (eqb b dollar) (λ _. escape) (λ _. body)
line_turn comment b = comment
line_turn body b = if_b (eqb b dollar) (λ _. escape) (λ _. body)
line_turn escape b = body

-- does this byte end the line
unfoldable pub ends_line : At → ℕ → Bool
ends_line indent b = eqb b newline
ends_line comment b = eqb b newline
ends_line body b = eqb b newline
ends_line escape b = false

-- A line: where it starts ("The start of a joined line is that of its first part."), its bytes without the newline that ends it, and whether such a newline is
-- there ("A manifest that ends inside a joined line is refused with 4.").
pub record Line : Type 0 where
  pub start : ℕ
  pub text : List ℕ
  pub ended : Bool

-- this byte, at this offset, put in front of the first line
unfoldable pub with_byte : ℕ → ℕ → List Line → List Line
with_byte at b [] = record { start = at; text = b ∷ []; ended = false } ∷ []
with_byte at b (l ∷ ls) = record { start = at; text = b ∷ l.text; ended = l.ended } ∷ ls

-- the lines of these bytes, the first of which stands at this offset, where the reading of its line stands so
unfoldable pub lines_from : At → ℕ → List ℕ → List Line
unfolding ends_line line_turn with_byte
lines_from q at [] = []
lines_from q at (b ∷ s) =
    if_b (ends_line q b) (λ _. record { start = at; text = []; ended = true } ∷ lines_from indent (suc at) s)
    (λ _. with_byte at b (lines_from (line_turn q b) (suc at) s))

abbrev pub is_space : ℕ → Bool
is_space b = eqb b space

unfoldable pub starts_with : ℕ → List ℕ → Bool
starts_with c [] = false
starts_with c (b ∷ s) = eqb b c

-- "A line whose first non-space byte is `#` is a comment and closes no block."
unfoldable pub is_comment : List ℕ → Bool
unfolding starts_with after_run
is_comment s = starts_with hash (after_run is_space s)

-- "An empty line or one of spaces only closes a block."
unfoldable pub is_blank : List ℕ → Bool
unfolding after_run
is_blank s = is_empty (after_run is_space s)

-- any leading space makes a line indented, however deep (reading 11)
unfoldable pub is_indented : List ℕ → Bool
unfolding starts_with
is_indented s = starts_with space s
