-- What the functions that write many texts ask of what was read, and what they promise.
use Rattle.std.specs.Prelude.{ℕ, ◌+◌, ◌-◌, ◌≤◌, ◌<◌, List, ◌++◌, ◌≡◌, length, take, Option, Some, None, Result, Ok, Err}
use Rattle.spec.specs.declared.Refusal.{Refusal}
use Rattle.spec.specs.declared.Wanted.{Wanted}
use Rattle.spec.specs.Basics.{concat}
use Rattle.spec.specs.Answers.{number_of_refusal, refusal_says}
use Rattle.spec.specs.Reading.{Reading}
use Rattle.spec.specs.TextAsk.{TextOutcome, text, no_text, wanted_name, text_of_step}
use Rattle.spec.specs.Sound.{SoundRules}
use Rattle.scan_classes.specs.Table.{classes}
use Rattle.hold_bindings.specs.Log.{Logged}
use Rattle.hold_reading.specs.declared.Counts.{Counts}
use Rattle.hold_reading.specs.Held.{HoldsReading}
use Rattle.hold_reading.specs.Buffers.{Buffers}
use Rattle.text_step.specs.Asks.{TextAsk}
use Rattle.text_batch.specs.TextsAsk.{TextsOutcome, texts, no_texts, texts_from, max_end, endable, ends_from}
use Rattle.text_batch.specs.TextsPromise.{texts_says, TextsMeets}

-- ------------------------------------------------------------------ one text behind others

-- the bytes up to `room` may be written, and `at` of them are
pub record PutAsk (t : List ℕ) (bs : Buffers) (c : Counts) (one bytes : List ℕ) (at room : ℕ) : Type 0 where
  pub asked : TextAsk t bs c one
  pub before : at ≤ room
  pub within : room ≤ length bytes

-- the text has a refusal that says this
pub record IsRefused (o : TextOutcome) (r : Refusal) : Type 0 where
  pub refusal : Refusal
  pub is : o ≡ no_text refusal
  pub says : refusal_says r ≡ refusal_says refusal
  pub known : 2 ≤ number_of_refusal refusal

-- the text is longer than what is left, and nothing is written
pub record IsLong (o : TextOutcome) (left : ℕ) (before after : List ℕ) : Type 0 where
  pub written : List ℕ
  pub is : o ≡ text written
  pub long : left < length written
  pub kept : after ≡ before

-- the text stands behind the others and ends at e
pub record IsPut (o : TextOutcome) (at room : ℕ) (before after : List ℕ) (e : ℕ) : Type 0 where
  pub written : List ℕ
  pub is : o ≡ text written
  pub end : e ≡ at + length written
  pub within : e ≤ room
  pub front : take e after ≡ take at before ++ written

unfoldable pub PutIs : TextOutcome → ℕ → ℕ → List ℕ → List ℕ → Result (Option ℕ) Refusal → Type 0
PutIs o at room before after (Ok (Some e)) = IsPut o at room before after e
PutIs o at room before after (Ok None) = IsLong o (room - at) before after
PutIs o at room before after (Err r) = IsRefused o r

-- ... whatever reading is held
pub record Puts (bs : Buffers) (c : Counts) (step : ℕ) (wanted : Wanted) (at room : ℕ) (before after : List ℕ) (r : Result (Option ℕ) Refusal) : Type 0 where
  pub meets : (log : List Logged) (rd : Reading) → HoldsReading log bs c rd → PutIs (text_of_step step (wanted_name wanted) rd) at room before after r

-- ------------------------------------------------------------------ the walk

pub record WalkAsk (t : List ℕ) (bs : Buffers) (c : Counts) (one bytes : List ℕ) (room : ℕ) : Type 0 where
  pub asked : TextAsk t bs c one
  pub within : room ≤ length bytes
  pub low : room ≤ max_end

-- n texts stand end to end in the first `end` bytes, and their ends in the first n numbers
pub record AreWritten (o : TextsOutcome) (bytes ends : List ℕ) (n end : ℕ) : Type 0 where
  pub written : List (List ℕ)
  pub is : o ≡ texts written
  pub count : n ≡ length written
  pub size : end ≡ length (concat written)
  pub front : take end bytes ≡ concat written
  pub places : take n ends ≡ ends_from 0 written

pub record AreRefused (o : TextsOutcome) (r : Refusal) : Type 0 where
  pub refusal : Refusal
  pub is : o ≡ no_texts refusal
  pub says : refusal_says r ≡ refusal_says refusal
  pub known : 2 ≤ number_of_refusal refusal

unfoldable pub WalkIs : TextsOutcome → List ℕ → List ℕ → Result (ℕ × ℕ) Refusal → Type 0
WalkIs o bytes ends (Ok (n, end)) = AreWritten o bytes ends n end
WalkIs o bytes ends (Err r) = AreRefused o r

-- the text ask of a reading, for one name
abbrev pub ask_of : Wanted → Reading → ℕ → TextOutcome
ask_of wanted rd s = text_of_step s (wanted_name wanted) rd

pub record Walks (bs : Buffers) (c : Counts) (steps : List ℕ) (wanted : Wanted) (room places : ℕ) (bytes ends : List ℕ) (r : Result (ℕ × ℕ) Refusal) : Type 0 where
  pub meets : (log : List Logged) (rd : Reading) → HoldsReading log bs c rd → WalkIs (texts_from (ask_of wanted rd) steps room places) bytes ends r

-- ------------------------------------------------------------------ all of it

-- some reading is held, as a manifest gives it
pub record BatchAsk (t : List ℕ) (bs : Buffers) (c : Counts) : Type 0 where
  pub table : t ≡ classes
  pub log : List Logged
  pub reading : Reading
  pub holds : HoldsReading log bs c reading
  pub sound : SoundRules reading

-- The answer and both buffers are what the texts ask says, whatever reading is held.
pub record TextsOf (bs : Buffers) (c : Counts) (steps : List ℕ) (wanted : Wanted) (bytes ends bytes_exit ends_exit : List ℕ) (r : Result ℕ Refusal) : Type 0 where
  pub meets : (log : List Logged) (rd : Reading) → HoldsReading log bs c rd
      → TextsMeets (texts_from (ask_of wanted rd) steps (endable (length bytes)) (length ends)) bytes ends (texts_says r) bytes_exit ends_exit
