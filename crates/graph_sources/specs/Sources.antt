-- Sources: files that no step makes; which of them are needed and missing, and the lowest of these.
use Rattle.std.specs.Prelude.{ℕ, ◌≤◌, ◌<◌, ◌≡◌, ◌⊎◌, List, length, get_or, Option, Some, None}
use Rattle.lists.specs.Members.{◌∈◌}
use Rattle.hold_columns.specs.Columns.{inputs_in, PartsPlaced}

-- a file with no maker that is not on the card
abbrev pub Absent : List ℕ → List ℕ → ℕ → Type 0
Absent times made f = (get_or times f 0 ≡ 0) × (get_or made f 0 ≡ 0)

-- r is the lowest of the missing sources in a list, if one of these is lower than the one before
pub record Lowered (times made fs : List ℕ) (before r : ℕ) : Type 0 where
  pub lower : r ≤ before
  pub found : r < before → (r ∈ fs) × Absent times made r
  pub least : (f : ℕ) → f ∈ fs → Absent times made f → r ≤ f

-- "a target or an input of a needed step"
abbrev pub SourceWanted : List ℕ → List ℕ → List ℕ → List ℕ → ℕ → Type 0
SourceWanted mentions ends roots order f = (f ∈ roots) ⊎ ((s : ℕ) × (s ∈ order) × (f ∈ inputs_in mentions ends s))

-- r is the lowest missing source that is wanted, or n where there is none
pub record LowestMissing (mentions ends made times roots order : List ℕ) (n r : ℕ) : Type 0 where
  pub within : r ≤ n
  pub found : r < n → SourceWanted mentions ends roots order r × Absent times made r
  pub least : (f : ℕ) → SourceWanted mentions ends roots order f → Absent times made f → r ≤ f

-- the lowest missing source that is wanted, of n files, or none
unfoldable pub MissingFound : List ℕ → List ℕ → List ℕ → List ℕ → List ℕ → List ℕ → ℕ → Option ℕ → Type 0
MissingFound mentions ends made times roots order n (Some f) = LowestMissing mentions ends made times roots order n f × (f < n)
MissingFound mentions ends made times roots order n None = LowestMissing mentions ends made times roots order n n

-- what the search asks: sound tables, a time for each file, and steps
pub record SourceAsked (mentions ends made times roots order : List ℕ) : Type 0 where
  pub placed : (i : ℕ) → i < length order → PartsPlaced mentions ends (get_or order i 0)
  pub low : (f : ℕ) → f ∈ mentions → f < length made
  pub roots_low : (i : ℕ) → i < length roots → get_or roots i 0 < length made
  pub timed : length times ≡ length made
