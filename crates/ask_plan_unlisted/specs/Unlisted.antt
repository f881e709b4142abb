-- What the plan from 14 on asks and promises where no depfile tells anything: steps are judged by the card's times, and the columns are the written ones.
use Rattle.std.specs.Prelude.{ℕ, ◌≤◌, ◌<◌, true, List, ◌≡◌, length, get_or, Result}
use Rattle.spec.specs.Limits.{least_list}
use Rattle.spec.specs.Reading.{Reading}
use Rattle.spec.specs.Card.{sound_card}
use Rattle.spec.specs.Headers.{Listed, nothing_listed, listed_of}
use Rattle.spec.specs.Answers.{plan_says}
use Rattle.spec.specs.PlanAsk.{Inputs, roots_of, plan_ordered}
use Rattle.spec.specs.Promises.{PlanMeets}
use Rattle.hold_names.specs.Table.{HoldsNames, SoundNames}
use Rattle.hold_columns.specs.Columns.{HoldsColumns, SoundColumns}
use Rattle.hold_reading.specs.declared.Counts.{Counts}
use Rattle.hold_parts.specs.Parts.{Tabled}
use Rattle.ask_plan_sources.specs.Sources.{FilesBelow}
use Rattle.spec.specs.declared.Refusal.{Refusal}

-- no step's depfile is missing or lists a file
abbrev pub NothingListed : List Listed → Type 0
NothingListed ls = (s : ℕ) → listed_of ls s ≡ nothing_listed

-- ------------------------------------------------------------------ by the columns

-- with a place for each time
pub record CardPlanAsked (card names index mentions ends phony made roots times list : List ℕ) : Type 0 where
  pub card_sound : sound_card card ≡ true
  pub named : SoundNames names index (length made)
  pub sound : SoundColumns (length phony) mentions ends made
  pub roots_low : FilesBelow roots made
  pub timed : length times ≡ length made
  pub room : least_list ≤ length list

pub record PlansByCard (card names index mentions ends phony made roots list : List ℕ) (answer : Result ℕ Refusal) (exit : List ℕ) : Type 0 where
  pub plans : (i : Inputs) (rd : Reading) (ls : List Listed) → i.card ≡ card → HoldsNames names index (length made) rd.files
      → HoldsColumns rd.steps (length rd.files) mentions ends phony made → NothingListed ls → roots ≡ roots_of i rd
      → PlanMeets (plan_ordered i rd (record { reading = rd; lists = ls })) list (plan_says answer) exit

-- ------------------------------------------------------------------ by the buffer that they lie in

pub record UnlistedAsked (card names index graph : List ℕ) (c : Counts) (roots list : List ℕ) : Type 0 where
  pub card_sound : sound_card card ≡ true
  pub reading : Reading
  pub named : HoldsNames names index c.files reading.files
  pub tabled : Tabled graph c reading
  pub roots_low : (i : ℕ) → i < length roots → get_or roots i 0 < c.files
  pub room : least_list ≤ length list

-- whatever ask and reading it is
pub record PlansUnlisted (card names index graph : List ℕ) (c : Counts) (roots list : List ℕ) (answer : Result ℕ Refusal) (exit : List ℕ) : Type 0 where
  pub plans : (i : Inputs) (rd : Reading) (ls : List Listed) → i.card ≡ card → HoldsNames names index c.files rd.files → Tabled graph c rd
      → NothingListed ls → roots ≡ roots_of i rd → PlanMeets (plan_ordered i rd (record { reading = rd; lists = ls })) list (plan_says answer) exit
