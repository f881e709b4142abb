-- What the lines of a text ask, and the files that they open.
use Rattle.std.specs.Prelude.{ℕ, ◌≤◌, ◌<◌, List, ◌≡◌, length}
use Rattle.std.proofs.Math.Option.{none}
use Rattle.spec.specs.Limits.{max_manifest}
use Rattle.spec.specs.Card.{number_at}
use Rattle.spec.specs.Bundle.{bundle_names, bundle_texts}
use Rattle.spec.specs.Dollars.{bad_dollar}
use Rattle.spec.specs.Manifest.{Opener, opener}
use Rattle.scan_classes.specs.Table.{classes}
use Rattle.scan_texts.specs.Checks.{ShortBundle}
use Rattle.hold_reading.specs.declared.Counts.{Counts}
use Rattle.hold_reading.specs.declared.Open.{Open}
use Rattle.hold_reading.specs.declared.Open.TheVariants.{Nothing}
use Rattle.hold_reading.specs.Buffers.{Buffers}
use Rattle.apply_statements.specs.Asks.{LinesRoom, BetweenLines}
use Rattle.apply_stretch.specs.Stretches.{LinesDone, StretchAsk}
use Rattle.apply_texts.specs.declared.LinesTurn.{LinesTurn}

-- the files of a bundle, where so many more may be open
abbrev pub file_opener : List ℕ → ℕ → Opener
file_opener s more = opener (bundle_names s) (bundle_texts s) more

-- ---- lines

-- lines that were found as numbers, of a text that begins at a place among all texts
pub record EachAsk (t s m : List ℕ) (base : ℕ) (found : List ℕ) (bs : Buffers) (word : List ℕ) (c : Counts) (o : Open) : Type 0 where
  pub bundle : ShortBundle s
  pub lines : StretchAsk t m base found 0 bs word c o

-- those from number k on
pub record TurnAsk (t s m : List ℕ) (base : ℕ) (found : List ℕ) (k : ℕ) (bs : Buffers) (word : List ℕ) (c : Counts) (o : Open) : Type 0 where
  pub bundle : ShortBundle s
  pub some : k < length found
  pub lines : StretchAsk t m base found k bs word c o

-- Some of them are read, with the files that they open.
pub record LinesMeet (via : Opener) (base : ℕ) (m found : List ℕ) (k : ℕ) (bs : Buffers) (c : Counts) (o : Open) (bs' : Buffers) (r : LinesTurn) : Type 0 where
  pub forward : k < r.next
  pub done : LinesDone via base m found k bs c o bs' r.answer r.next

-- ---- texts

-- the text of record k
pub record TextReadAsk (t s : List ℕ) (k : ℕ) (bs : Buffers) (word : List ℕ) (c : Counts) : Type 0 where
  pub table : t ≡ classes
  pub bundle : ShortBundle s
  pub below : k < number_at 0 4 s
  pub room : LinesRoom bs.names bs.graph word
  pub between : BetweenLines bs c Nothing

-- the file of a raw path
pub record FileAsk (t s raw : List ℕ) (bs : Buffers) (word : List ℕ) (c : Counts) : Type 0 where
  pub table : t ≡ classes
  pub bundle : ShortBundle s
  pub short : length raw ≤ max_manifest
  pub dollars : bad_dollar raw ≡ none
  pub room : LinesRoom bs.names bs.graph word
  pub between : BetweenLines bs c Nothing
