-- The room behind the graph's columns is for a table of a line's outputs; the columns stay.
use Rattle.std.specs.Prelude.{ℕ, List, ◌≡◌, length, take}
use Rattle.hold_reading.specs.Held as held

-- where the columns of the graph end, and the room for a table of outputs begins
abbrev pub table_start : ℕ
table_start = held.columns_end

-- the columns of the graph stay
pub record ColumnsKept (graph graph' : List ℕ) : Type 0 where
  pub long : length graph' ≡ length graph
  pub columns : take table_start graph' ≡ take table_start graph
