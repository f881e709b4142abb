-- Texts end to end in bytes, cut where they end, and the lines of them.
use Rattle.std.specs.Prelude.{ℕ, suc, ◌+◌, ◌*◌, ◌≤◌, List, [], ◌∷◌, ◌++◌, length}
use Rattle.lists.specs.Parts.{part}
use Rattle.printing.specs.Lines.{step_line_of}
use Rattle.printing.specs.Writes.{step_room}

-- each text begins where the one before it ends, and lies within the bytes
unfoldable pub TextsInOrder : List ℕ → ℕ → List ℕ → Type 0
TextsInOrder bytes at [] = Unit {0}
TextsInOrder bytes at (e ∷ es) = (at ≤ e) × (e ≤ length bytes) × TextsInOrder bytes e es

-- the texts that end at these places, the first beginning at a place
unfoldable pub cut_texts : List ℕ → ℕ → List ℕ → List (List ℕ)
cut_texts bytes at [] = []
cut_texts bytes at (e ∷ es) = part bytes at e ∷ cut_texts bytes e es

-- the lines of these texts, k of the list's n steps having gone before
unfoldable pub lines_of_texts : ℕ → ℕ → List (List ℕ) → List ℕ
unfolding step_line_of
lines_of_texts n k [] = []
lines_of_texts n k (t ∷ ts) = step_line_of (suc k) n t ++ lines_of_texts n (suc k) ts

pub record CutWanted (bytes ends out : List ℕ) (place count : ℕ) : Type 0 where
  pub order : TextsInOrder bytes 0 ends
  pub counted : place + length ends ≤ count
  pub room : length bytes + step_room * length ends ≤ length out
