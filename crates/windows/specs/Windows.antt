-- Windows of eight bytes, by which two lists of bytes are compared.
use Rattle.std.specs.Prelude.{ℕ, zero, suc, ◌+◌, ◌-◌, ◌*◌, ◌^◌, ◌≤◌, ◌<◌, min, List, ◌≡◌, length, take, get_or}

-- the number in the `size` bytes at `at` with the first byte highest, and that r is it
unfoldable pub high_at : ℕ → ℕ → List ℕ → ℕ
high_at at zero s = 0
high_at at (suc size) s = get_or s at 0 * 256 ^ size + high_at (at + 1) size s

pub record High (s : List ℕ) (at size r : ℕ) : Type 0 where
  pub is : r ≡ high_at at size s
  pub small : r < 256 ^ size

-- their first i bytes are the same
pub record Alike (a b : List ℕ) (i : ℕ) : Type 0 where
  pub in_first : i ≤ length a
  pub in_second : i ≤ length b
  pub same : take i a ≡ take i b

-- the shorter has n bytes, and at most its last eight differ
pub record AlikeToEnd (a b : List ℕ) (n : ℕ) : Type 0 where
  pub least : n ≡ min (length a) (length b)
  pub eight : 8 ≤ n
  pub alike : Alike a b (n - 8)
