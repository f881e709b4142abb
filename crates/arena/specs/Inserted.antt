-- One number more within a table.
use Rattle.std.specs.Prelude.{ℕ, ◌+◌, List, ◌∷◌, ◌++◌, ◌≡◌, length, take, drop}

-- x put in at place p, in front of what stood there
abbrev pub inserted : {A : Type 0} → List A → ℕ → A → List A
inserted l p x = take p l ++ x ∷ drop p l

-- the first n numbers of a table with one more at place p; what lies behind them stays
pub record Shifted (table : List ℕ) (n p v : ℕ) (table' : List ℕ) : Type 0 where
  pub long : length table' ≡ length table
  pub entries : take (n + 1) table' ≡ inserted (take n table) p v
  pub beyond : drop (n + 1) table' ≡ drop (n + 1) table
