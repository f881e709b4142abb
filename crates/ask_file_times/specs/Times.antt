-- What a column of times holds: "Every other file has the card's time", "a file that the card does not list is missing".
use Rattle.std.specs.Prelude.{ℕ, ◌≤◌, true, List, ◌++◌, map, ◌≡◌, length, drop}
use Rattle.spec.specs.Card.{sound_card, card_entries, time_in}
use Rattle.hold_names.specs.Table.{HoldsNames, SoundNames}

pub record TimesAsked (card names index : List ℕ) (count : ℕ) (times : List ℕ) : Type 0 where
  pub sound : sound_card card ≡ true
  pub named : SoundNames names index count
  pub room : count ≤ length times

-- the times of these files
unfoldable pub times_of : List ℕ → List (List ℕ) → List ℕ
unfolding time_in card_entries
times_of card files = map (time_in (card_entries card)) files

-- the column begins with the times of the files held, and what lies beyond is as it was
pub record Timed (card names index : List ℕ) (count : ℕ) (before after : List ℕ) : Type 0 where
  pub filled : (files : List (List ℕ)) → HoldsNames names index count files → after ≡ times_of card files ++ drop count before
