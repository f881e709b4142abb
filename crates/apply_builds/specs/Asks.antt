-- What a build line asks: where its parts stand, all that is held, and room.
use Rattle.std.specs.Prelude.{ℕ, ◌+◌, ◌≤◌, List, ◌≡◌, length}
use Rattle.spec.specs.Limits.{max_manifest, max_value, max_written}
use Rattle.spec.specs.Forms.{BuildLine}
use Rattle.scan_classes.specs.Table.{classes}
use Rattle.cut_forms.specs.Statements.{Stands}
use Rattle.cut_forms.specs.declared.BuildPlaces.{BuildPlaces}
use Rattle.hold_reading.specs.Adds.{Whole}
use Rattle.hold_reading.specs.declared.Counts.{Counts}
use Rattle.apply_equal_outputs.specs.Kept.{table_start}
use Rattle.hold_reading.specs.Buffers.{Buffers}

-- The word buffer has room for any path within its limit, and behind the columns of the graph is room for the table of its outputs.
pub record BuildAsks (t l : List ℕ) (bs : Buffers) (word : List ℕ) (c : Counts) (p : BuildPlaces) : Type 0 where
  pub table : t ≡ classes
  pub short : length l ≤ max_manifest
  pub line : BuildLine
  pub stands : Stands l p line
  pub room : max_value ≤ length word
  pub scratch : table_start + max_manifest ≤ length bs.graph
  pub names_room : max_written ≤ length bs.names
  pub whole : Whole bs c
