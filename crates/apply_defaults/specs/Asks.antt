-- What a default line asks: a list of paths, all that is held, and a word buffer with room for any path within its limit.
use Rattle.std.specs.Prelude.{ℕ, ◌≤◌, List, ◌≡◌, length}
use Rattle.spec.specs.Limits.{max_manifest, max_value}
use Rattle.scan_classes.specs.Table.{classes}
use Rattle.cut_forms.specs.Paths.{PathsAt}
use Rattle.hold_reading.specs.Adds.{Whole}
use Rattle.hold_reading.specs.declared.Counts.{Counts}
use Rattle.hold_reading.specs.Buffers.{Buffers}

pub record DefaultAsks (t l : List ℕ) (bs : Buffers) (word : List ℕ) (c : Counts) (at : ℕ) : Type 0 where
  pub table : t ≡ classes
  pub short : length l ≤ max_manifest
  pub raw : List (List ℕ)
  pub stands : PathsAt l at raw
  pub room : max_value ≤ length word
  pub whole : Whole bs c
