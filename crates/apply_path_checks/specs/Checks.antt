-- The checks of a line's paths: what they ask, and what they answer. They look at each path expanded and change nothing that is held.
use Rattle.std.specs.Prelude.{ℕ, ◌≤◌, Bool, not, ◌||◌, List, ◌≡◌, length, take}
use Rattle.lists.specs.Members.{any}
use Rattle.spec.specs.Basics.{is_empty}
use Rattle.spec.specs.Limits.{max_manifest, max_value}
use Rattle.spec.specs.Dollars.{expand}
use Rattle.spec.specs.Reading.{Reading, var_from, file_var, is_made}
use Rattle.spec.specs.Statements.{expanded}
use Rattle.scan_classes.specs.Table.{classes}
use Rattle.cut_forms.specs.Paths.{PathsAt}
use Rattle.hold_bindings.specs.Log.{Logged}
use Rattle.expand_parts.specs.Runs.{ExpandReady}
use Rattle.hold_names.specs.Table.{HoldsNames}
use Rattle.hold_reading.specs.Held.{Graphed, HoldsReading}
use Rattle.hold_reading.specs.Adds.{Whole}
use Rattle.hold_reading.specs.declared.Counts.{Counts}
use Rattle.apply_path_checks.specs.declared.PathKind.{PathKind}
use Rattle.apply_path_checks.specs.declared.PathKind.TheVariants.{Input, Output, Default}
use Rattle.hold_reading.specs.Buffers.{Buffers, buffers}

-- "Paths .. are expanded at once with the file's variables as they then stand."
unfoldable pub path_of : Reading → List ℕ → List ℕ
unfolding expand var_from
path_of rd raw = expand (file_var rd.vars) raw

-- what a path is refused for by itself, by its kind: "empty path, output made twice .., default that is no earlier output" (8)
unfoldable pub wrong_path : PathKind → Reading → List ℕ → Bool
unfolding is_made
wrong_path Input rd p = is_empty p
wrong_path Output rd p = is_empty p || is_made p rd
wrong_path Default rd p = is_empty p || not (is_made p rd)

-- ---- a path in the word buffer

-- the names and the graph that are held, without the table of bindings
pub record Filed (log : List Logged) (names index graph : List ℕ) (c : Counts) (rd : Reading) : Type 0 where
  pub named : HoldsNames names index c.files rd.files
  pub graphed : Graphed log graph c rd

pub record FilesKnown (names index graph : List ℕ) (c : Counts) : Type 0 where
  pub log : List Logged
  pub reading : Reading
  pub filed : Filed log names index graph c reading

-- The word buffer has room for any name that is held.
pub record MadeAsks (names index graph word : List ℕ) (c : Counts) : Type 0 where
  pub room : max_value ≤ length word
  pub files : FilesKnown names index graph c

-- whether a path of n bytes, which is in the word buffer if it fits there, is the output of an earlier step
pub record IsMade (names index graph word : List ℕ) (c : Counts) (n : ℕ) (r : Bool) : Type 0 where
  pub answer : (path : List ℕ) → n ≡ length path → (n ≤ length word → take n word ≡ path) → (texts bind : List ℕ) (log : List Logged) (rd : Reading)
      → HoldsReading log (buffers names index texts bind graph) c rd → r ≡ is_made path rd

-- ---- raw paths

-- a raw path, and all that is held
pub record RawAsks (t raw : List ℕ) (bs : Buffers) (word : List ℕ) (c : Counts) : Type 0 where
  pub ready : ExpandReady t raw bs.texts bs.bind c.entries 0
  pub room : max_value ≤ length word
  pub whole : Whole bs c

-- the same for a list of paths
pub record PathAsks (t l : List ℕ) (bs : Buffers) (word : List ℕ) (c : Counts) (at : ℕ) : Type 0 where
  pub table : t ≡ classes
  pub short : length l ≤ max_manifest
  pub within : at ≤ length l
  pub room : max_value ≤ length word
  pub whole : Whole bs c

-- whether any path of the list is wrong, whatever reading is held
pub record AnyWrong (kind : PathKind) (l : List ℕ) (bs : Buffers) (c : Counts) (at : ℕ) (r : Bool) : Type 0 where
  pub answer : (ps : List (List ℕ)) → PathsAt l at ps → (log : List Logged) (rd : Reading) → HoldsReading log bs c rd → r ≡ any (wrong_path kind rd) (expanded rd ps)
