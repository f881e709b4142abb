-- The index of a log: the numbers of its entries sorted by owner and name, those of one owner and one name as they were read.
use Rattle.std.specs.Prelude.{ℕ, ◌≤◌, ◌<◌, true, false, List, ◌∷◌, ◌⊎◌, ◌≡◌, length, get_or}
use Rattle.lists.specs.Bytes.{less_bytes}
use Rattle.hold_bindings.specs.Log.{Logged, entry_at}

abbrev pub key_of : Logged → List ℕ
key_of e = e.owner ∷ e.name

abbrev pub key_at : List Logged → ℕ → List ℕ
key_at log k = key_of (entry_at k log)

-- entry a stands in front of entry b
abbrev pub Before : List Logged → ℕ → ℕ → Type 0
Before log a b = (less_bytes (key_at log a) (key_at log b) ≡ true) ⊎ ((key_at log a ≡ key_at log b) × (a < b))

pub record Indexed (log : List Logged) (index : List ℕ) : Type 0 where
  pub long : length index ≡ length log
  pub below : (i : ℕ) → i < length index → get_or index i 0 < length log
  pub sorted : (i j : ℕ) → i < j → j < length index → Before log (get_or index i 0) (get_or index j 0)
  pub every : (k : ℕ) → k < length log → (i : ℕ) × (i < length index) × (get_or index i 0 ≡ k)

-- No entry in front of place `low` comes after the key, and every one from place `high` on does.
pub record KeyBetween (log : List Logged) (index key : List ℕ) (low high : ℕ) : Type 0 where
  pub within : high ≤ length index
  pub before : (i : ℕ) → i < low → less_bytes key (key_at log (get_or index i 0)) ≡ false
  pub after : (i : ℕ) → high ≤ i → i < length index → less_bytes key (key_at log (get_or index i 0)) ≡ true
