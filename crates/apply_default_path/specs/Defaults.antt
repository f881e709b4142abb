-- One path of a default line: what is held of it.
use Rattle.std.specs.Prelude.{ℕ, ◌+◌, true, false, List, [], ◌∷◌, ◌++◌, ◌≡◌, length, Option, Some, None}
use Rattle.spec.specs.Reading.{Reading, number_of, is_made}
use Rattle.hold_bindings.specs.Log.{Logged}
use Rattle.hold_reading.specs.Held.{HoldsReading}
use Rattle.hold_reading.specs.declared.Counts.{Counts}
use Rattle.apply_path_checks.specs.Checks.{path_of, FilesKnown}
use Rattle.apply_files.specs.Path.{path_over}
use Rattle.hold_reading.specs.Buffers.{Buffers, buffers, with_graph}

-- the reading with a default more: a file's number, and its path's bytes
unfoldable pub defaulted : ℕ → ℕ → Reading → Reading
defaulted k n rd =
    record { rules = rd.rules; vars = rd.vars; files = rd.files; steps = rd.steps; defaults = rd.defaults ++ (k ∷ []); bindings = rd.bindings; mentions = rd.mentions + 1; written = rd.written + n; opened = rd.opened }

abbrev pub counted_default : ℕ → Counts → Counts
counted_default n c =
    record {
      files = c.files;
      steps = c.steps;
      paths = c.paths;
      defaults = c.defaults + 1;
      entries = c.entries;
      rules = c.rules;
      bindings = c.bindings;
      mentions = c.mentions + 1;
      written = c.written + n;
      opened = c.opened;
    }

pub record PutAsks (names index graph : List ℕ) (c : Counts) (path : List ℕ) : Type 0 where
  pub files : FilesKnown names index graph c
  pub within : path_over (length path) c ≡ false

-- The path of an output is a default more, whatever is bound.
pub record PutsDefault (names index graph : List ℕ) (c : Counts) (path graph' : List ℕ) (d : Counts) : Type 0 where
  pub held : (texts bind : List ℕ) (log : List Logged) (rd : Reading) → HoldsReading log (buffers names index texts bind graph) c rd → is_made path rd ≡ true
      → HoldsReading log (buffers names index texts bind graph') d (defaulted (number_of path rd.files) (length path) rd)

unfoldable pub Named·is : (bs : Buffers) → Counts → (path : List ℕ) → List Logged → Reading → Option Counts → Type 0
Named·is bs c path log rd (Some d) =
    (path_over (length path) c ≡ false) × HoldsReading log bs d (defaulted (number_of path rd.files) (length path) rd)
Named·is bs c path log rd None = path_over (length path) c ≡ true

pub record NamesDefault (bs : Buffers) (c : Counts) (raw graph' : List ℕ) (r : Option Counts) : Type 0 where
  pub answer : (log : List Logged) (rd : Reading) → HoldsReading log bs c rd → is_made (path_of rd raw) rd ≡ true
      → Named·is (with_graph bs graph') c (path_of rd raw) log rd r
