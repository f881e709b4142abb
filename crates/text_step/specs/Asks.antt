-- What the text of a step asks of what was read, and what it promises.
use Rattle.std.specs.Prelude.{ℕ, ◌≤◌, List, [], false, ◌≡◌, length, take, Result, Ok, Err}
use Rattle.spec.specs.declared.Key.{Key}
use Rattle.spec.specs.declared.Wanted.{Wanted}
use Rattle.spec.specs.Limits.{max_text}
use Rattle.spec.specs.Answers.{text_says}
use Rattle.spec.specs.Promises.{TextMeets}
use Rattle.spec.specs.Reading.{Step, Reading}
use Rattle.spec.specs.Sound.{SoundRules}
use Rattle.spec.specs.Graph.{step_at}
use Rattle.spec.specs.Text.{Spelling, key_name, leads_back, text_by, deep}
use Rattle.spec.specs.TextAsk.{TextOutcome, text, no_text, name_outcome, wanted_name, text_of_step}
use Rattle.scan_classes.specs.Table.{classes}
use Rattle.hold_bindings.specs.Log.{Logged}
use Rattle.hold_reading.specs.declared.Counts.{Counts}
use Rattle.hold_reading.specs.Held.{HoldsReading}
use Rattle.text_lookup.specs.declared.Asked.{Asked}
use Rattle.text_buffer.specs.Puts.{PutsText}
use Rattle.text_expansion.specs.Here.{Here}
use Rattle.hold_reading.specs.Buffers.{Buffers}
use Rattle.spec.specs.declared.Refusal.{Refusal}

-- ------------------------------------------------------------------ one step

pub record StepAsk (t : List ℕ) (bs : Buffers) (a : Asked) (buffer : List ℕ) : Type 0 where
  pub table : t ≡ classes
  pub room : max_text ≤ length buffer
  pub log : List Logged
  pub reading : Reading
  pub step : Step
  pub here : Here bs a log reading step
  pub whole : a.depth ≡ deep

-- the same, for the text of a name that is not endless
pub record WholeAsk (t : List ℕ) (bs : Buffers) (a : Asked) (name buffer : List ℕ) : Type 0 where
  pub asked : StepAsk t bs a buffer
  pub ended : leads_back asked.reading asked.step deep [] name ≡ false

-- its text is written, with names spelt this way
pub record WritesWhole (bs : Buffers) (a : Asked) (spell : Spelling) (name before after : List ℕ) (r : ℕ) : Type 0 where
  pub writes : (log : List Logged) (rd : Reading) (s : Step) → Here bs a log rd s → leads_back rd s deep [] name ≡ false
      → PutsText before 0 (text_by spell rd s deep name) after r

-- a text stands in the first n bytes
pub record TextStands (o : TextOutcome) (n : ℕ) (after : List ℕ) : Type 0 where
  pub is : o ≡ text (take n after)
  pub within : n ≤ length after

unfoldable pub AnswersText : TextOutcome → List ℕ → Result ℕ Refusal → Type 0
AnswersText o after (Ok n) = TextStands o n after
AnswersText o after (Err r) = o ≡ no_text r

-- 16, 17 or the text of a key, and the whole buffer, for the step of the number asked for in any reading that has it there
pub record TextAt (bs : Buffers) (a : Asked) (key : Key) (before after : List ℕ) (r : Result ℕ Refusal) : Type 0 where
  pub meets : (log : List Logged) (rd : Reading) → Here bs a log rd (step_at rd.steps a.step)
      → TextMeets (name_outcome a.step (key_name key) rd) before (text_says r) after
  pub answers : (log : List Logged) (rd : Reading) → Here bs a log rd (step_at rd.steps a.step) → AnswersText (name_outcome a.step (key_name key) rd) after r

-- ------------------------------------------------------------------ the ask

-- Some reading is held, as a manifest gives it, and the buffer is long enough.
pub record TextAsk (t : List ℕ) (bs : Buffers) (c : Counts) (buffer : List ℕ) : Type 0 where
  pub table : t ≡ classes
  pub room : max_text ≤ length buffer
  pub log : List Logged
  pub reading : Reading
  pub holds : HoldsReading log bs c reading
  pub sound : SoundRules reading

-- The answer and the whole buffer are what document 01 says, whatever reading is held.
pub record TextOf (bs : Buffers) (c : Counts) (step : ℕ) (wanted : Wanted) (before after : List ℕ) (r : Result ℕ Refusal) : Type 0 where
  pub meets : (log : List Logged) (rd : Reading) → HoldsReading log bs c rd
      → TextMeets (text_of_step step (wanted_name wanted) rd) before (text_says r) after
