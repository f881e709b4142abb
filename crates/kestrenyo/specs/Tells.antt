-- What three numbers tell of an answer: its number, and its place or count, with the text that a place stands in.
use Rattle.std.specs.Prelude.{ℕ, List}
use Rattle.spec.specs.Answers.{Said, placed}
use Rattle.answers.specs.declared.Placed.{Placed}
use Rattle.answer_places.specs.Places.{HasPlace}

-- the three numbers of something said of these texts that is right
pub record Tells (texts : List (List ℕ)) (Right : Said → Type 0) (r : Placed) : Type 0 where
  pub says : Said
  pub right : Right says
  pub told : HasPlace says.number (placed texts says) r
