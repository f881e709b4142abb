-- The columns of the graph as parts of their buffer.
use Rattle.std.specs.Prelude.{ℕ, ◌+◌, ◌*◌, ◌≤◌, List, ◌≡◌, length, take}
use Rattle.lists.specs.Parts.{part}
use Rattle.spec.specs.Limits.{max_steps, max_files, max_mentions}
use Rattle.spec.specs.Reading.{Reading}
use Rattle.hold_bindings.specs.Log.{Logged}
use Rattle.hold_columns.specs.Columns.{per_step}
use Rattle.hold_reading.specs.declared.Counts.{Counts}
use Rattle.hold_reading.specs.Held.{ends_start, phony_start, made_start, defaults_start, columns_end, Graphed}

module _ (graph : List ℕ) (c : Counts) where
  abbrev pub mentions_in : List ℕ
  mentions_in = take c.paths graph

  abbrev pub ends_in : List ℕ
  ends_in = part graph ends_start (ends_start + per_step * c.steps)

  abbrev pub phony_in : List ℕ
  phony_in = part graph phony_start (phony_start + c.steps)

  abbrev pub made_in : List ℕ
  made_in = part graph made_start (made_start + c.files)

  abbrev pub defaults_in : List ℕ
  defaults_in = part graph defaults_start (defaults_start + c.defaults)

-- so much is in each column that they do not reach into one another
pub record ColumnsCut (graph : List ℕ) (c : Counts) : Type 0 where
  pub long : columns_end ≤ length graph
  pub few_paths : c.paths ≤ max_mentions
  pub few_steps : c.steps ≤ max_steps
  pub few_files : c.files ≤ max_files

-- the columns hold this reading's steps, files and defaults
pub record Tabled (graph : List ℕ) (c : Counts) (rd : Reading) : Type 0 where
  pub log : List Logged
  pub graphed : Graphed log graph c rd
  pub files_counted : c.files ≡ length rd.files
  pub steps_counted : c.steps ≡ length rd.steps
