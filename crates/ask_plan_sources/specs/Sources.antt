-- What 15 asks and promises, with the list after it.
use Rattle.std.specs.Prelude.{ℕ, ◌<◌, ◌≡◌, List, length, get_or, Result}
use Rattle.lists.specs.Members.{◌∈◌}
use Rattle.spec.specs.Reading.{Reading}
use Rattle.spec.specs.Graph.{inputs, step_at}
use Rattle.spec.specs.Headers.{HeaderGraph}
use Rattle.spec.specs.Answers.{plan_says}
use Rattle.spec.specs.PlanAsk.{Inputs, roots_of, plan_sources}
use Rattle.spec.specs.Promises.{PlanMeets}
use Rattle.hold_columns.specs.Columns.{inputs_in, PartsPlaced}
use Rattle.ask_plan_list.specs.Stages.{Staged, OrderOf, OrderAsked}
use Rattle.spec.specs.declared.Refusal.{Refusal}

-- files by number
abbrev pub FilesBelow : List ℕ → List ℕ → Type 0
FilesBelow fs made = (i : ℕ) → i < length fs → get_or fs i 0 < length made

-- the written columns of n steps: where their inputs lie, and that these are files
pub record WrittenAsked (n : ℕ) (wmentions wends made : List ℕ) : Type 0 where
  pub placed : (s : ℕ) → s < n → PartsPlaced wmentions wends s
  pub low : (f : ℕ) → f ∈ wmentions → f < length made

-- they give the inputs of each step as the manifest has them, without the listed ones
pub record WrittenInputs (rd : Reading) (wmentions wends : List ℕ) : Type 0 where
  pub held : (s : ℕ) → inputs_in wmentions wends s ≡ inputs (step_at rd.steps s)

pub record SourcesAsked (wmentions wends mentions ends phony made times roots order list : List ℕ) : Type 0 where
  pub asked : OrderAsked mentions ends phony made times order list
  pub written : WrittenAsked (length phony) wmentions wends made
  pub roots_low : FilesBelow roots made

pub record PlansSources (wmentions wends mentions ends phony made times roots order list : List ℕ) (answer : Result ℕ Refusal) (exit : List ℕ) : Type 0 where
  pub plans : (i : Inputs) (rd : Reading) (h : HeaderGraph) → Staged i h mentions ends phony made times → WrittenInputs rd wmentions wends → roots ≡ roots_of i rd
      → OrderOf i rd h order → PlanMeets (plan_sources i rd h) list (plan_says answer) exit
