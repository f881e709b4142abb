-- What a line that mentions files is held to, build lines and defaults: it changes names and columns of the graph, and the table of bindings stays.
-- No block is open.
use Rattle.std.specs.Prelude.{ℕ, List, Result}
use Rattle.spec.specs.Reading.{Reading}
use Rattle.spec.specs.Statements.{Outcome}
use Rattle.hold_bindings.specs.Log.{Logged}
use Rattle.hold_reading.specs.Held.{HoldsReading, Agrees}
use Rattle.hold_reading.specs.declared.Counts.{Counts}
use Rattle.hold_reading.specs.Buffers.{Buffers, with_files}
use Rattle.spec.specs.declared.Refusal.{Refusal}
use Rattle.hold_reading.specs.declared.State.{State}

-- the buffers hold some reading
pub record Whole (bs : Buffers) (c : Counts) : Type 0 where
  pub log : List Logged
  pub reading : Reading
  pub holds : HoldsReading log bs c reading

-- The line's answer agrees with its outcome, whatever reading was held.
pub record AddsFiles (bs : Buffers) (c : Counts) (line : Reading → Outcome) (names' index' graph' : List ℕ) (r : Result State Refusal) : Type 0 where
  pub agrees : (log : List Logged) (rd : Reading) → HoldsReading log bs c rd → Agrees (with_files bs names' index' graph') (line rd) r
