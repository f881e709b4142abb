-- "for at most 2,048 steps the number of tenths is within 1 of 10,000 times the steps divided by the milliseconds, cut downwards"
use Rattle.std.specs.Prelude.{ℕ, ◌+◌, ◌*◌, ◌/◌, ◌≤◌}

-- the number t and the whole quotient of x by m are within 1 of each other
pub record WithinOne (x m t : ℕ) : Type 0 where
  pub most : t ≤ x / m + 1
  pub least : x / m ≤ t + 1

-- so many tenths for n steps in m milliseconds
abbrev pub TenthsNear : ℕ → ℕ → ℕ → Type 0
TenthsNear n m t = WithinOne (10000 * n) m t

-- "one above 86,400,000 counts as that"
abbrev pub day : ℕ
day = 86400000
