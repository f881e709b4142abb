-- What the writing of a build line asks and gives: its 7s and 8s were looked for before.
use Rattle.std.specs.Prelude.{ℕ, ◌≤◌, true, false, List, ◌≡◌, length, Result}
use Rattle.spec.specs.Limits.{max_manifest}
use Rattle.spec.specs.Forms.{BuildLine}
use Rattle.spec.specs.Reading.{Reading, declared}
use Rattle.spec.specs.Statements.{bad_paths, inputs_of_line, expanded_line, add_step}
use Rattle.scan_classes.specs.Table.{classes}
use Rattle.cut_forms.specs.declared.BuildPlaces.{BuildPlaces}
use Rattle.cut_forms.specs.Statements.{Stands}
use Rattle.hold_bindings.specs.Log.{Logged}
use Rattle.hold_reading.specs.declared.Counts.{Counts}
use Rattle.hold_reading.specs.Held.{HoldsReading, Agrees}
use Rattle.hold_reading.specs.Adds.{Whole}
use Rattle.apply_mentions.specs.Asks.{MentionRoom}
use Rattle.hold_reading.specs.Buffers.{Buffers, with_files}
use Rattle.spec.specs.declared.Refusal.{Refusal}
use Rattle.hold_reading.specs.declared.State.{State}

pub record StepAsks (t l : List ℕ) (bs : Buffers) (word : List ℕ) (c : Counts) (p : BuildPlaces) : Type 0 where
  pub table : t ≡ classes
  pub short : length l ≤ max_manifest
  pub line : BuildLine
  pub stands : Stands l p line
  pub room : MentionRoom bs.names word
  pub whole : Whole bs c

-- A line whose paths are expanded has no 7 and no 8.
pub record ClearLine (b : BuildLine) (rd : Reading) : Type 0 where
  pub known : declared b.rule rd ≡ true
  pub sound : bad_paths b.outs (inputs_of_line b) rd ≡ false

-- Its answer agrees with its outcome, whatever reading was held.
pub record WritesStep (l : List ℕ) (bs : Buffers) (c : Counts) (start : ℕ) (p : BuildPlaces) (names' index' graph' : List ℕ) (r : Result State Refusal) : Type 0 where
  pub agrees : (b : BuildLine) → Stands l p b → (log : List Logged) (rd : Reading) → HoldsReading log bs c rd → ClearLine (expanded_line rd b) rd
      → Agrees (with_files bs names' index' graph') (add_step start (expanded_line rd b) rd) r
