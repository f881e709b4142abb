-- What the search for 8s in a build line asks and answers. It changes nothing that is held.
use Rattle.std.specs.Prelude.{ℕ, ◌+◌, ◌≤◌, Bool, List, ◌≡◌, length}
use Rattle.lists.specs.Members.{any}
use Rattle.spec.specs.Basics.{is_empty}
use Rattle.spec.specs.Limits.{max_manifest, max_value}
use Rattle.spec.specs.Forms.{BuildLine}
use Rattle.spec.specs.Reading.{Reading}
use Rattle.spec.specs.Statements.{bad_paths, expanded_line, inputs_of_line}
use Rattle.scan_classes.specs.Table.{classes}
use Rattle.cut_forms.specs.Statements.{Stands}
use Rattle.cut_forms.specs.declared.BuildPlaces.{BuildPlaces}
use Rattle.hold_bindings.specs.Log.{Logged}
use Rattle.hold_reading.specs.Held.{HoldsReading}
use Rattle.hold_reading.specs.Adds.{Whole}
use Rattle.hold_reading.specs.declared.Counts.{Counts}
use Rattle.apply_equal_outputs.specs.Kept.{table_start, ColumnsKept}
use Rattle.hold_reading.specs.Buffers.{Buffers}

-- all that is held for a build line, with room for an entry for each of its outputs
pub record BuildLineAsks (t l : List ℕ) (bs : Buffers) (word : List ℕ) (c : Counts) (p : BuildPlaces) : Type 0 where
  pub table : t ≡ classes
  pub short : length l ≤ max_manifest
  pub line : BuildLine
  pub stands : Stands l p line
  pub room : max_value ≤ length word
  pub scratch : table_start + max_manifest ≤ length bs.graph
  pub whole : Whole bs c

-- whether an input of any kind is an empty path
pub record InputsChecked (l : List ℕ) (bs : Buffers) (c : Counts) (p : BuildPlaces) (r : Bool) : Type 0 where
  pub answer : (b : BuildLine) → Stands l p b → (log : List Logged) (rd : Reading) → HoldsReading log bs c rd → r ≡ any is_empty (inputs_of_line (expanded_line rd b))

-- "empty path, output made twice (also within one step)" (8)
pub record PathsChecked (l : List ℕ) (bs : Buffers) (c : Counts) (p : BuildPlaces) (graph' : List ℕ) (r : Bool) : Type 0 where
  pub kept : ColumnsKept bs.graph graph'
  pub answer : (b : BuildLine) → Stands l p b → (log : List Logged) (rd : Reading) → HoldsReading log bs c rd
      → r ≡ bad_paths (expanded_line rd b).outs (inputs_of_line (expanded_line rd b)) rd
