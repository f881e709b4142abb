-- The times by which the steps with their listed inputs are judged, from the card.
use Rattle.std.specs.Prelude.{ℕ, true, List, ◌≡◌, length}
use Rattle.spec.specs.Card.{sound_card}
use Rattle.spec.specs.Headers.{HeaderGraph}
use Rattle.spec.specs.PlanAsk.{Inputs, judged_time}
use Rattle.hold_names.specs.Table.{HoldsNames, SoundNames}
use Rattle.hold_columns.specs.Columns.{HoldsColumns}
use Rattle.graph_stale.specs.Judge.{time_at}
use Rattle.ask_judged_times.specs.Lists.{HoldsLists, JudgedAsked}

-- the names and columns hold the steps with their listed inputs, and what the depfiles tell
pub record HoldsHeaded (h : HeaderGraph) (names index mentions ends phony made missing listed : List ℕ) : Type 0 where
  pub named : HoldsNames names index (length made) h.reading.files
  pub held : HoldsColumns h.reading.steps (length h.reading.files) mentions ends phony made
  pub lists : HoldsLists h.lists mentions ends missing listed

-- a sound card, names of the files, columns of the lists, and a place for each time
pub record HeadedAsked (card names index mentions ends made missing listed times : List ℕ) : Type 0 where
  pub sound : sound_card card ≡ true
  pub named : SoundNames names index (length made)
  pub asked : JudgedAsked mentions ends made missing listed times

-- whatever ask and steps it is
pub record HeadedTimes (card names index mentions ends made missing listed exit : List ℕ) : Type 0 where
  pub timed : (i : Inputs) (h : HeaderGraph) (phony : List ℕ) → i.card ≡ card → HoldsHeaded h names index mentions ends phony made missing listed
      → (f : ℕ) → time_at exit f ≡ judged_time i h f
