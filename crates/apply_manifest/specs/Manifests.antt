-- What the reading of a bundle of manifest texts asks and answers.
use Rattle.std.specs.Prelude.{ℕ, ◌-◌, ◌^◌, ◌≤◌, ◌<◌, List, ◌≡◌, length, Result, Ok, Err}
use Rattle.spec.specs.Limits.{max_open}
use Rattle.spec.specs.Bundle.{bundle_texts}
use Rattle.spec.specs.Reading.{Reading, nothing_read}
use Rattle.spec.specs.Statements.{no_block}
use Rattle.spec.specs.Manifest.{read_lines, text_lines, accepted, refused_with, read_manifest}
use Rattle.scan_classes.specs.Table.{classes}
use Rattle.scan_texts.specs.Checks.{ShortBundle}
use Rattle.hold_names.specs.Table.{max_numbers}
use Rattle.hold_bindings.specs.Log.{Logged}
use Rattle.hold_bindings.specs.Held.{max_texts, max_rows}
use Rattle.hold_reading.specs.declared.Counts.{Counts}
use Rattle.hold_reading.specs.Held.{HoldsReading, Agrees}
use Rattle.hold_reading.specs.Buffers.{Buffers}
use Rattle.apply_statements.specs.Asks.{LinesRoom}
use Rattle.apply_texts.specs.Texts.{file_opener}
use Rattle.spec.specs.declared.Refusal.{Refusal}
use Rattle.hold_reading.specs.declared.State.{State}

-- ---- room

-- room in the buffers for any manifest, whatever they hold
pub record Roomy (t : List ℕ) (bs : Buffers) (word : List ℕ) : Type 0 where
  pub table : t ≡ classes
  pub room : LinesRoom bs.names bs.graph word
  pub names_small : length bs.names < 2 ^ 32
  pub numbers_room : max_numbers ≤ length bs.index
  pub texts_room : max_texts ≤ length bs.texts
  pub bind_room : max_rows ≤ length bs.bind

-- a bundle that is sound and short, with room for it
pub record LinesAsk (t s : List ℕ) (bs : Buffers) (word : List ℕ) : Type 0 where
  pub bundle : ShortBundle s
  pub roomy : Roomy t bs word

-- ---- all of it

-- The answer agrees with the lines of the top file, read from the first one on.
pub record LinesRead (s : List ℕ) (bs : Buffers) (r : Result State Refusal) : Type 0 where
  pub agrees : Agrees bs (read_lines (file_opener s (max_open - 1)) (text_lines (bundle_texts s) 0) nothing_read no_block) r

-- The bundle is accepted, and the buffers hold what was read.
pub record Held (s : List ℕ) (bs : Buffers) (c : Counts) : Type 0 where
  pub log : List Logged
  pub reading : Reading
  pub is : read_manifest s ≡ accepted reading
  pub holds : HoldsReading log bs c reading

unfoldable pub IsRead : List ℕ → Buffers → Result Counts Refusal → Type 0
IsRead s bs (Ok c) = Held s bs c
IsRead s bs (Err r) = read_manifest s ≡ refused_with r
