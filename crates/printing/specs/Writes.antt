-- What the functions promise that fill the lent line.
use Rattle.std.specs.Prelude.{ℕ, ◌+◌, ◌*◌, ◌≤◌, List, ◌++◌, ◌≡◌, length, take}
use Rattle.spec.specs.Limits.{max_steps, max_text}
use Rattle.spec.specs.Promises.{filled}

-- room for a line of any kind: a step's line, or a refusal with a circle of all steps
abbrev pub line_room : ℕ
line_room = max_text + 8 * max_steps

-- what a step's line takes beside its text, at most: two numbers of twenty digits, and `[`, `/`, `] ` and a line end
abbrev pub step_room : ℕ
step_room = 45

-- what a place takes at most: two numbers and a colon between them; and a refusal without its line end
abbrev pub place_room : ℕ
place_room = 41

abbrev pub refused_room : ℕ
refused_room = 32 + place_room

-- s is written from place `at` on, up to place r
pub record PutsInLine (s entry : List ℕ) (at : ℕ) (exit : List ℕ) (r : ℕ) : Type 0 where
  pub end : r ≡ at + length s
  pub front : take r exit ≡ take at entry ++ s

-- the same, of a text that takes at most `most` places
pub record PutsUpTo (most : ℕ) (s entry : List ℕ) (at : ℕ) (exit : List ℕ) (r : ℕ) : Type 0 where
  pub puts : PutsInLine s entry at exit r
  pub short : r ≤ at + most

-- the lent buffer holds n bytes, which are `out`, and zeros beyond
pub record LeavesOutput (out lent : List ℕ) (n : ℕ) (exit : List ℕ) : Type 0 where
  pub count : n ≡ length out
  pub left : exit ≡ filled out lent
