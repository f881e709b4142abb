-- The second columns before the first step: which steps are phony, each file's maker and the defaults are as written.
use Rattle.std.specs.Prelude.{ℕ, ◌+◌, ◌≤◌, ◌<◌, List, [], ◌≡◌, length, get_or, set}
use Rattle.lists.specs.Parts.{part}
use Rattle.spec.specs.Limits.{max_steps, max_files, max_mentions}
use Rattle.arena.specs.Columns.{Lies, start_of, column}
use Rattle.hold_reading.specs.declared.Counts.{Counts}
use Rattle.hold_reading.specs.Held.{capacities, phony_start, made_start, defaults_start, columns_end}
use Rattle.apply_files.specs.Lines.{Columns}

-- A column that was empty has these entries.
pub record Fills (second : List ℕ) (at : ℕ) (src second' : List ℕ) : Type 0 where
  pub fills : (k : ℕ) (xs : List (List ℕ)) → start_of capacities k ≡ at → k < length xs → column xs k ≡ [] → length src ≤ get_or capacities k 0
      → Lies capacities second xs → Lies capacities second' (set xs k src)

pub record BeginAsked (graph : List ℕ) (c : Counts) (second : List ℕ) : Type 0 where
  pub graph_long : columns_end ≤ length graph
  pub second_long : columns_end ≤ length second
  pub few_steps : c.steps ≤ max_steps
  pub few_files : c.files ≤ max_files
  pub few_defaults : c.defaults ≤ max_mentions

pub record Begins (graph : List ℕ) (c : Counts) (second' : List ℕ) : Type 0 where
  pub columns : Columns second' [] [] (part graph phony_start (phony_start + c.steps)) (part graph made_start (made_start + c.files)) [] (part graph defaults_start (defaults_start + c.defaults))
