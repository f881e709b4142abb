-- What the choice of the roots and 13 ask and promise. They go by the written columns.
use Rattle.std.specs.Prelude.{ℕ, ◌≤◌, ◌<◌, ◌≡◌, true, false, List, length, get_or, take, Option, Some, None}
use Rattle.lists.specs.Fill.{zeros}
use Rattle.spec.specs.Reading.{Reading}
use Rattle.spec.specs.Graph.{no_root}
use Rattle.spec.specs.PlanAsk.{Inputs, target_files, roots_of}
use Rattle.hold_columns.specs.Columns.{HoldsColumns, SoundColumns}

-- the columns hold the reading's steps, and the defaults and targets are those of the reading and the ask
pub record Chosen (i : Inputs) (rd : Reading) (mentions ends phony made defaults targets : List ℕ) : Type 0 where
  pub held : HoldsColumns rd.steps (length rd.files) mentions ends phony made
  pub defaulted : defaults ≡ rd.defaults
  pub targeted : targets ≡ target_files i.targets rd

pub record PutAsked (fs out : List ℕ) : Type 0 where
  pub room : length fs ≤ length out

-- the first r numbers are these files
pub record FilesPut (fs exit : List ℕ) (r : ℕ) : Type 0 where
  pub within : r ≤ length exit
  pub front : take r exit ≡ fs

-- sound columns, files that are named, and working space
pub record ChoiceAsked (mentions ends phony made defaults targets marks out : List ℕ) : Type 0 where
  pub sound : SoundColumns (length phony) mentions ends made
  pub defaults_low : (i : ℕ) → i < length defaults → get_or defaults i 0 < length made
  pub targets_low : (i : ℕ) → i < length targets → get_or targets i 0 < length made
  pub blank : marks ≡ zeros (length made)
  pub mentions_room : length mentions ≤ length out
  pub defaults_room : length defaults ≤ length out
  pub targets_room : length targets ≤ length out

-- the first k numbers are the roots, whatever ask and reading it is
pub record RootsPut (mentions ends phony made defaults targets out : List ℕ) (k : ℕ) : Type 0 where
  pub within : k ≤ length out
  pub low : (i : ℕ) → i < length (take k out) → get_or (take k out) i 0 < length made
  pub are : (i : Inputs) (rd : Reading) → Chosen i rd mentions ends phony made defaults targets → take k out ≡ roots_of i rd

-- past 13
pub record RootsFrom (mentions ends phony made defaults targets out : List ℕ) (k : ℕ) : Type 0 where
  pub put : RootsPut mentions ends phony made defaults targets out k
  pub rooted : (i : Inputs) (rd : Reading) → Chosen i rd mentions ends phony made defaults targets → no_root rd (target_files i.targets rd) ≡ false

-- 13
pub record RootsNone (mentions ends phony made defaults targets : List ℕ) : Type 0 where
  pub rootless : (i : Inputs) (rd : Reading) → Chosen i rd mentions ends phony made defaults targets → no_root rd (target_files i.targets rd) ≡ true

unfoldable pub RootsFound : List ℕ → List ℕ → List ℕ → List ℕ → List ℕ → List ℕ → List ℕ → Option ℕ → Type 0
RootsFound mentions ends phony made defaults targets out (Some k) = RootsFrom mentions ends phony made defaults targets out k
RootsFound mentions ends phony made defaults targets out None = RootsNone mentions ends phony made defaults targets
