-- What the plan ask with sound header lists asks.
use Rattle.std.specs.Prelude.{ℕ, ◌≤◌, true, List, ◌≡◌, length}
use Rattle.spec.specs.Limits.{least_list}
use Rattle.spec.specs.Headers.{sound_headers}

-- past 20 at 0; the list has the room that 1 asks for
pub record LentLists (headers list : List ℕ) : Type 0 where
  pub sound : sound_headers headers ≡ true
  pub room : least_list ≤ length list
