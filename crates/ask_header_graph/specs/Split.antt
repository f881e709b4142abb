-- What the depfiles tell, in two columns.
use Rattle.std.specs.Prelude.{ℕ, ◌+◌, ◌*◌, ◌≤◌, ◌<◌, List, map, ◌≡◌, length}
use Rattle.lists.specs.Parts.{part}
use Rattle.spec.specs.Limits.{max_steps, max_mentions}
use Rattle.spec.specs.Headers.{Listed}
use Rattle.hold_columns.specs.Columns.{bit}
use Rattle.hold_reading.specs.Held.{rule_start, columns_end}
use Rattle.hold_headers.specs.Headed.{listed_number, listed_in}

pub record SplitAsked (second : List ℕ) (steps : ℕ) (missing listed : List ℕ) : Type 0 where
  pub long : columns_end ≤ length second
  pub few : steps ≤ max_steps
  pub small : (s : ℕ) → s < steps → listed_in second s ≤ 2 * max_mentions + 1
  pub missing_long : length missing ≡ steps
  pub listed_long : length listed ≡ steps

-- whatever lists the numbers tell of
pub record SplitsLists (second : List ℕ) (steps : ℕ) (missing listed : List ℕ) : Type 0 where
  pub splits : (ls : List Listed) → part second rule_start (rule_start + steps) ≡ map listed_number ls
      → (missing ≡ map (λ (l : Listed). bit l.missing) ls) × (listed ≡ map (λ (l : Listed). length l.files) ls)
