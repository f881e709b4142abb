-- Rising lists of paths, and what halving one knows of a path.
use Rattle.std.specs.Prelude.{ℕ, ◌≤◌, ◌<◌, true, List, [], ◌≡◌, length, get_or}
use Rattle.lists.specs.Bytes.{less_bytes}

pub record RisingPaths (ps : List (List ℕ)) : Type 0 where
  pub less : (i j : ℕ) → i < j → j < length ps → less_bytes (get_or ps i []) (get_or ps j []) ≡ true

-- Those before `low` are less than x, those from `high` on are greater.
pub record PathBetween (ps : List (List ℕ)) (x : List ℕ) (low high : ℕ) : Type 0 where
  pub within : high ≤ length ps
  pub before : (i : ℕ) → i < low → less_bytes (get_or ps i []) x ≡ true
  pub after : (i : ℕ) → high ≤ i → i < length ps → less_bytes x (get_or ps i []) ≡ true
