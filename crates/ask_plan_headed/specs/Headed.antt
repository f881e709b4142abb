-- What the plan behind the header lists asks and promises: the times by which steps are judged, then 14, 15 and the list.
use Rattle.std.specs.Prelude.{ℕ, ◌≤◌, ◌<◌, true, ◌≡◌, List, length, get_or, Result}
use Rattle.spec.specs.Limits.{least_list}
use Rattle.spec.specs.Reading.{Reading}
use Rattle.spec.specs.Card.{sound_card}
use Rattle.spec.specs.Headers.{HeaderGraph}
use Rattle.spec.specs.Answers.{plan_says}
use Rattle.spec.specs.PlanAsk.{Inputs, roots_of, plan_ordered}
use Rattle.spec.specs.Promises.{PlanMeets}
use Rattle.hold_names.specs.Table.{SoundNames}
use Rattle.hold_columns.specs.Columns.{implicit_end, end_at, SoundColumns}
use Rattle.ask_headed_times.specs.Times.{HoldsHeaded}
use Rattle.ask_plan_sources.specs.Sources.{FilesBelow, WrittenAsked, WrittenInputs}
use Rattle.spec.specs.declared.Refusal.{Refusal}

-- past 13 and the header lists
pub record HeadedPlanAsked (card names index wmentions wends mentions ends phony made missing listed roots list : List ℕ) : Type 0 where
  pub card_sound : sound_card card ≡ true
  pub named : SoundNames names index (length made)
  pub sound : SoundColumns (length phony) mentions ends made
  pub missing_long : length missing ≡ length phony
  pub listed_long : length listed ≡ length phony
  pub few : (s : ℕ) → s < length phony → get_or listed s 0 ≤ end_at ends s implicit_end
  pub written : WrittenAsked (length phony) wmentions wends made
  pub roots_low : FilesBelow roots made
  pub room : least_list ≤ length list

-- with a place for each time
pub record HeadedSpaceAsked (card names index wmentions wends mentions ends phony made missing listed roots times list : List ℕ) : Type 0 where
  pub asked : HeadedPlanAsked card names index wmentions wends mentions ends phony made missing listed roots list
  pub timed : length times ≡ length made

-- whatever ask and reading it is, and whatever steps with their listed inputs the columns hold
pub record PlansHeaded (card names index wmentions wends mentions ends phony made missing listed roots list : List ℕ) (answer : Result ℕ Refusal) (exit : List ℕ) : Type 0 where
  pub plans : (i : Inputs) (rd : Reading) (h : HeaderGraph) → i.card ≡ card → HoldsHeaded h names index mentions ends phony made missing listed
      → WrittenInputs rd wmentions wends → roots ≡ roots_of i rd → PlanMeets (plan_ordered i rd h) list (plan_says answer) exit
