-- How the output begins, and what the lent line holds then.
use Rattle.std.specs.Prelude.{ℕ, List, ◌≡◌, length}
use Rattle.spec.specs.Answers.{Said}
use Rattle.spec.specs.Promises.{filled}
use Rattle.answer_places.specs.Places.{placed_in}
use Rattle.printing.specs.Lines.{refused_line}
use Rattle.report_output.specs.declared.Begun.{Begun}
use Rattle.report_output.specs.declared.Begun.TheVariants.{Whole, Refusal, Steps}

-- how the output begins: whole, or with the lines of so many steps still to come
pub data Start : Type 0 where
  whole : ℕ → Start
  refusal : ℕ → Start
  to_come : ℕ → Start

abbrev pub starts_as : Begun → Start
starts_as (Whole n) = whole n
starts_as (Refusal n) = refusal n
starts_as (Steps n held) = to_come n

-- ... with what the lent line holds
pub record Opening : Type 0 where
  pub begun : Start
  pub bytes : List ℕ

unfoldable pub whole_output : List ℕ → Opening
whole_output out = record { begun = whole (length out); bytes = out }

-- the same, of a refusal
unfoldable pub refusing : List ℕ → Opening
refusing out = record { begun = refusal (length out); bytes = out }

-- the line of a refusal, whose place is looked up in the bundle
unfoldable pub refusal_line : List ℕ → Said → List ℕ
unfolding refused_line placed_in
refusal_line bundle s = refused_line s.number (placed_in bundle s)

pub record OpensReport (o : Opening) (lent : List ℕ) (r : Begun) (exit : List ℕ) : Type 0 where
  pub begun : starts_as r ≡ o.begun
  pub left : exit ≡ filled o.bytes lent
