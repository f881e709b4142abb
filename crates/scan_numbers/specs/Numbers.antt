-- A number in bytes, the lowest first.
use Rattle.std.specs.Prelude.{ℕ, ◌^◌, ◌<◌, List, ◌≡◌}
use Rattle.spec.specs.Card.{number_at}

-- r is the number in the `size` bytes at `at`
pub record NumberIs (s : List ℕ) (at size r : ℕ) : Type 0 where
  pub is : r ≡ number_at at size s
  pub small : r < 256 ^ size
