-- What writing a text asks, and what is written.
use Rattle.std.specs.Prelude.{ℕ, ◌≤◌, List, false, ◌≡◌}
use Rattle.lists.specs.Members.{any}
use Rattle.spec.specs.Dollars.{expand, refs}
use Rattle.spec.specs.Reading.{Step, Reading}
use Rattle.spec.specs.Text.{Spelling, as_is, spelled_by, text_by, deep}
use Rattle.scan_classes.specs.Table.{classes}
use Rattle.hold_bindings.specs.Log.{Logged}
use Rattle.text_references.specs.Begins.{ReferencesReady}
use Rattle.text_lookup.specs.declared.Asked.{Asked}
use Rattle.text_lookup.specs.declared.Source.{Source}
use Rattle.text_lookup.specs.declared.Source.TheVariants.{Value}
use Rattle.text_lookup.specs.Scope.{meaning, There}
use Rattle.text_recursion.specs.Depth.{goes_deep}
use Rattle.text_buffer.specs.Puts.{OpenText}
use Rattle.text_memo.specs.declared.Draft.{Draft}
use Rattle.text_memo.specs.Draft.{Remembers, Drafted}
use Rattle.text_expansion.specs.Here.{StepFiles, Here}
use Rattle.hold_reading.specs.Buffers.{Buffers}

-- how names of files are spelt: plain or quoted, as it is asked for
abbrev pub spelling : Asked → Spelling
spelling a = spelled_by a.plain

-- files of the step, from a place of the mentions to another
pub record StepFilesAsk (names index graph : List ℕ) (a : Asked) (from to : ℕ) (buffer : List ℕ) (d : Draft) : Type 0 where
  pub reading : Reading
  pub step : Step
  pub files : StepFiles names index graph a reading step
  pub first : a.outs ≤ from
  pub ordered : from ≤ to
  pub last : to ≤ a.rest
  pub free : OpenText buffer d.at

-- ------------------------------------------------------------------ what is written as it is

pub record PlainAsk (bs : Buffers) (a : Asked) (source : Source) (buffer : List ℕ) (d : Draft) : Type 0 where
  pub reading : Reading
  pub step : Step
  pub files : StepFiles bs.names bs.index bs.graph a reading step
  pub free : OpenText buffer d.at
  pub value : (k : ℕ) → source ≡ Value k → There bs.texts bs.bind a k

pub record WritesPlain (bs : Buffers) (a : Asked) (source : Source) (before : List ℕ) (d : Draft) (after : List ℕ) (r : Draft) : Type 0 where
  pub writes : (log : List Logged) (rd : Reading) (s : Step) → Here bs a log rd s → (v : List ℕ) → meaning (spelling a) rd s log source ≡ as_is v
      → (text : List ℕ → List ℕ) → Remembers text before d → Drafted text before d v after r

-- ------------------------------------------------------------------ rules' texts

-- the text of a name
abbrev pub text_in : Asked → Reading → Step → List ℕ → List ℕ
text_in a rd s = text_by (spelling a) rd s deep

-- Some reading's step is held, and the draft remembers texts of its names.
pub record Asking (bs : Buffers) (a : Asked) (buffer : List ℕ) (d : Draft) : Type 0 where
  pub log : List Logged
  pub reading : Reading
  pub step : Step
  pub here : Here bs a log reading step
  pub remembers : Remembers (text_in a reading step) buffer d

-- a raw text
pub record RawTextAsk (t : List ℕ) (bs : Buffers) (a : Asked) (raw buffer : List ℕ) (d : Draft) : Type 0 where
  pub ready : ReferencesReady t raw 0
  pub low : a.depth ≤ deep
  pub asking : Asking bs a buffer d
  pub shallow : any (goes_deep asking.reading asking.step a.depth) (refs raw) ≡ false

pub record WritesText (bs : Buffers) (a : Asked) (raw before : List ℕ) (d : Draft) (after : List ℕ) (r : Draft) : Type 0 where
  pub writes : (log : List Logged) (rd : Reading) (s : Step) → Here bs a log rd s → any (goes_deep rd s a.depth) (refs raw) ≡ false
      → Remembers (text_in a rd s) before d → Drafted (text_in a rd s) before d (expand (text_in a rd s) raw) after r

-- a name
pub record NameTextAsk (t : List ℕ) (bs : Buffers) (a : Asked) (name buffer : List ℕ) (d : Draft) : Type 0 where
  pub table : t ≡ classes
  pub low : a.depth ≤ deep
  pub asking : Asking bs a buffer d
  pub shallow : goes_deep asking.reading asking.step a.depth name ≡ false

pub record WritesName (bs : Buffers) (a : Asked) (name before : List ℕ) (d : Draft) (after : List ℕ) (r : Draft) : Type 0 where
  pub writes : (log : List Logged) (rd : Reading) (s : Step) → Here bs a log rd s → goes_deep rd s a.depth name ≡ false
      → Remembers (text_in a rd s) before d → Drafted (text_in a rd s) before d (text_in a rd s name) after r
