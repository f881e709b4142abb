-- What the plan from 14 on asks and promises where the listed inputs stand in the second columns.
use Rattle.std.specs.Prelude.{ℕ, ◌≤◌, ◌<◌, true, List, ◌≡◌, length, get_or, Result}
use Rattle.spec.specs.Limits.{least_list}
use Rattle.spec.specs.Reading.{Reading}
use Rattle.spec.specs.Card.{sound_card}
use Rattle.spec.specs.Headers.{HeaderGraph}
use Rattle.spec.specs.Answers.{plan_says}
use Rattle.spec.specs.PlanAsk.{Inputs, roots_of, plan_ordered}
use Rattle.spec.specs.Promises.{PlanMeets}
use Rattle.hold_reading.specs.declared.Counts.{Counts}
use Rattle.hold_parts.specs.Parts.{Tabled}
use Rattle.ask_header_graph.specs.Graph.{HeadedGraph}
use Rattle.spec.specs.declared.Refusal.{Refusal}

-- past the header lists: `graph` has the written columns by the counts c, `second` those with the listed inputs by the counts d
pub record SecondAsked (card names index graph : List ℕ) (c : Counts) (second : List ℕ) (d : Counts) (roots list : List ℕ) : Type 0 where
  pub card_sound : sound_card card ≡ true
  pub reading : Reading
  pub tabled : Tabled graph c reading
  pub added : HeaderGraph
  pub headed : HeadedGraph names index second c d added
  pub roots_low : (i : ℕ) → i < length roots → get_or roots i 0 < c.files
  pub room : least_list ≤ length list

-- with a place for each step in two columns
pub record SecondSpaceAsked (card names index graph : List ℕ) (c : Counts) (second : List ℕ) (d : Counts) (roots missing listed list : List ℕ) : Type 0 where
  pub asked : SecondAsked card names index graph c second d roots list
  pub missing_long : length missing ≡ d.steps
  pub listed_long : length listed ≡ d.steps

-- whatever ask and reading it is, and whatever steps with their listed inputs the second columns hold
pub record PlansSecond (card names index graph : List ℕ) (c : Counts) (second : List ℕ) (d : Counts) (roots list : List ℕ) (answer : Result ℕ Refusal) (exit : List ℕ) : Type 0 where
  pub plans : (i : Inputs) (rd : Reading) (h : HeaderGraph) → i.card ≡ card → Tabled graph c rd → HeadedGraph names index second c d h → roots ≡ roots_of i rd
      → PlanMeets (plan_ordered i rd h) list (plan_says answer) exit
