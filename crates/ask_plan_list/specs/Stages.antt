-- What the stages of the plan ask behind the header lists are given, for whatever ask and reading it is, and what they ask of the lent slices.
use Rattle.std.specs.Prelude.{ℕ, ◌≤◌, ◌<◌, ◌≡◌, List, length, get_or, Result}
use Rattle.orders.specs.Order.{IsOrder}
use Rattle.orders.specs.Greedy.{In, By}
use Rattle.spec.specs.Limits.{least_list}
use Rattle.spec.specs.Reading.{Reading}
use Rattle.spec.specs.Graph.{before, needed}
use Rattle.spec.specs.Headers.{HeaderGraph}
use Rattle.spec.specs.Answers.{plan_says}
use Rattle.spec.specs.PlanAsk.{Inputs, judged_time, roots_of, plan_listed}
use Rattle.spec.specs.Promises.{PlanMeets}
use Rattle.hold_columns.specs.Columns.{before_in, HoldsColumns, SoundColumns, SortedSteps}
use Rattle.graph_stale.specs.Judge.{time_at}
use Rattle.spec.specs.declared.Refusal.{Refusal}

-- the columns hold the steps with their listed inputs, and the times are those by which steps are judged
pub record Staged (i : Inputs) (h : HeaderGraph) (mentions ends phony made times : List ℕ) : Type 0 where
  pub held : HoldsColumns h.reading.steps (length h.reading.files) mentions ends phony made
  pub timed : (f : ℕ) → time_at times f ≡ judged_time i h f

-- behind 14: an order of the steps that the ask needs
abbrev pub OrderOf : Inputs → Reading → HeaderGraph → List ℕ → Type 0
OrderOf i rd h order = IsOrder (In (needed h.reading.steps (roots_of i rd))) (By (before h.reading.steps)) order

-- sound columns, a time for each file, and the room that 1 asks for
pub record StageAsked (mentions ends phony made times list : List ℕ) : Type 0 where
  pub sound : SoundColumns (length phony) mentions ends made
  pub timed : length times ≡ length made
  pub room : least_list ≤ length list

-- with steps, each after those before it
pub record OrderAsked (mentions ends phony made times order list : List ℕ) : Type 0 where
  pub asked : StageAsked mentions ends phony made times list
  pub sorted : SortedSteps (before_in mentions ends made) order
  pub steps : (s : ℕ) → s < length order → get_or order s 0 < length phony

-- whatever ask and reading it is, this is the outcome where no check refuses
pub record PlansListed (mentions ends phony made times order list : List ℕ) (answer : Result ℕ Refusal) (exit : List ℕ) : Type 0 where
  pub plans : (i : Inputs) (rd : Reading) (h : HeaderGraph) → Staged i h mentions ends phony made times → OrderOf i rd h order
      → PlanMeets (plan_listed i rd h) list (plan_says answer) exit
