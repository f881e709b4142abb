-- What 14 asks and promises, with 15 and the list after it.
use Rattle.std.specs.Prelude.{ℕ, ◌≡◌, List, length, Result}
use Rattle.spec.specs.Reading.{Reading}
use Rattle.spec.specs.Headers.{HeaderGraph}
use Rattle.spec.specs.Answers.{plan_says}
use Rattle.spec.specs.PlanAsk.{Inputs, roots_of, plan_ordered}
use Rattle.spec.specs.Promises.{PlanMeets}
use Rattle.ask_plan_list.specs.Stages.{Staged, StageAsked}
use Rattle.ask_plan_sources.specs.Sources.{FilesBelow, WrittenAsked, WrittenInputs}
use Rattle.spec.specs.declared.Refusal.{Refusal}

pub record RootsAsked (wmentions wends mentions ends phony made times roots list : List ℕ) : Type 0 where
  pub asked : StageAsked mentions ends phony made times list
  pub written : WrittenAsked (length phony) wmentions wends made
  pub roots_low : FilesBelow roots made

-- with room for an order
pub record OrderSpaceAsked (wmentions wends mentions ends phony made times roots order list : List ℕ) : Type 0 where
  pub asked : RootsAsked wmentions wends mentions ends phony made times roots list
  pub long : length order ≡ length phony

pub record PlansOrdered (wmentions wends mentions ends phony made times roots list : List ℕ) (answer : Result ℕ Refusal) (exit : List ℕ) : Type 0 where
  pub plans : (i : Inputs) (rd : Reading) (h : HeaderGraph) → Staged i h mentions ends phony made times → WrittenInputs rd wmentions wends → roots ≡ roots_of i rd
      → PlanMeets (plan_ordered i rd h) list (plan_says answer) exit
