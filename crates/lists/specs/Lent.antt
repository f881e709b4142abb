-- What a function leaves of the buffers that it was lent, whatever it answers.
use Rattle.std.specs.Prelude.{ℕ, List, ◌≡◌, length}

-- working space: any content, same length
pub record Spare (before after : List ℕ) : Type 0 where
  pub long : length after ≡ length before

-- A function's promise, with the space that it leaves beside it: of buffers of which the promise says nothing, or nothing after a refusal.
pub record Leaves (Space Promise : Type 0) : Type 0 where
  pub space : Space
  pub promise : Promise
