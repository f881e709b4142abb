-- What a line asks of all the reader's buffers, and what it is held to.
use Rattle.std.specs.Prelude.{ℕ, ◌+◌, ◌≤◌, List, length, Result}
use Rattle.spec.specs.Limits.{max_manifest, max_value, max_written}
use Rattle.spec.specs.Lines.{Line}
use Rattle.spec.specs.Reading.{Reading}
use Rattle.spec.specs.Statements.{Block, Outcome}
use Rattle.hold_bindings.specs.Log.{Logged}
use Rattle.cut_refusals.specs.Cuts.{CutAsks}
use Rattle.hold_reading.specs.declared.Counts.{Counts}
use Rattle.hold_reading.specs.declared.Open.{Open}
use Rattle.hold_reading.specs.declared.LineTurn.{LineTurn}
use Rattle.hold_reading.specs.Held.{joined, OpensBlock, HoldsReading, Agrees, TurnAgrees}
use Rattle.apply_equal_outputs.specs.Kept.{table_start}
use Rattle.hold_reading.specs.Buffers.{Buffers}
use Rattle.spec.specs.declared.Refusal.{Refusal}
use Rattle.hold_reading.specs.declared.State.{State}

-- room that no line uses up: for all names, for one word, and behind the columns of the graph
pub record LinesRoom (names graph word : List ℕ) : Type 0 where
  pub names_room : max_written ≤ length names
  pub scratch : table_start + max_manifest ≤ length graph
  pub word_room : max_value ≤ length word

-- the buffers hold some reading and its open block
pub record BetweenLines (bs : Buffers) (c : Counts) (o : Open) : Type 0 where
  pub log : List Logged
  pub reading : Reading
  pub block : Block
  pub holds : HoldsReading log bs c (joined reading block)
  pub opens : OpensBlock log block o

pub record LineAsks (t : List ℕ) (start : ℕ) (l : List ℕ) (bs : Buffers) (word : List ℕ) (c : Counts) (o : Open) : Type 0 where
  pub cut : CutAsks t start l
  pub room : LinesRoom bs.names bs.graph word
  pub between : BetweenLines bs c o

-- The line's answer agrees with its outcome, whatever reading and block were held.
pub record LineMeets (bs : Buffers) (c : Counts) (o : Open) (line : Reading → Block → Outcome)
    (bs' : Buffers) (r : Result State Refusal) : Type 0 where
  pub agrees : (log : List Logged) (rd : Reading) (b : Block) → HoldsReading log bs c (joined rd b) → OpensBlock log b o
      → Agrees bs' (line rd b) r

-- The same of the line `l` that may open a file.
pub record TurnMeets (l : Line) (bs : Buffers) (c : Counts) (o : Open) (line : Reading → Block → Outcome)
    (bs' : Buffers) (r : LineTurn) : Type 0 where
  pub agrees : (log : List Logged) (rd : Reading) (b : Block) → HoldsReading log bs c (joined rd b) → OpensBlock log b o
      → TurnAgrees l bs' (line rd b) r
