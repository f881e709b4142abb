-- One path: is it over a limit, what its mention stores and counts, and what the buffers hold then.
use Rattle.std.specs.Prelude.{ℕ, ◌+◌, ◌≤◌, Bool, false, ◌||◌, List, [], ◌∷◌, ◌≡◌, ltb, length, set, Option}
use Rattle.spec.specs.Limits.{max_mentions, max_path, max_written}
use Rattle.hold_reading.specs.declared.Counts.{Counts}
use Rattle.hold_reading.specs.Held.{made_start}
use Rattle.apply_files.specs.Lines.{LineHeld, Writing, AddedPaths}
use Rattle.hold_reading.specs.Buffers.{buffers}

-- is a path of n bytes over a limit by the counts; files are not counted here
unfoldable pub path_over : ℕ → Counts → Bool
path_over n c = ltb max_path n || (ltb max_mentions (c.mentions + 1) || ltb max_written (c.written + n))

-- the counts with a mention more of n bytes, and so many files
abbrev pub counted_path : ℕ → ℕ → Counts → Counts
counted_path files n c =
    record {
      files = files;
      steps = c.steps;
      paths = c.paths + 1;
      defaults = c.defaults;
      entries = c.entries;
      rules = c.rules;
      bindings = c.bindings;
      mentions = c.mentions + 1;
      written = c.written + n;
      opened = c.opened;
    }

-- the number of a file at the end of the mentions
pub record Again (graph : List ℕ) (c : Counts) (k n : ℕ) (graph' : List ℕ) (r : Counts) : Type 0 where
  pub stored : graph' ≡ set graph c.paths k
  pub counted : r ≡ counted_path c.files n c

-- the number of a new file there, and no maker for it
pub record First (graph : List ℕ) (c : Counts) (k n : ℕ) (graph' : List ℕ) (r : Counts) : Type 0 where
  pub stored : graph' ≡ set (set graph c.paths k) (made_start + c.files) 0
  pub counted : r ≡ counted_path (c.files + 1) n c

-- a path that is within the limits but for the count of files
pub record PathFits (path names index graph : List ℕ) (c : Counts) : Type 0 where
  pub texts : List ℕ
  pub bind : List ℕ
  pub names_long : max_written ≤ length names
  pub within : path_over (length path) c ≡ false
  pub line : LineHeld
  pub writing : Writing (buffers names index texts bind graph) c line

pub record AddsPath (path names index graph : List ℕ) (c : Counts) (names' index' graph' : List ℕ) (r : Option Counts) : Type 0 where
  pub adds : (texts bind : List ℕ) (h : LineHeld) → Writing (buffers names index texts bind graph) c h → AddedPaths (buffers names' index' texts bind graph') h (path ∷ []) r
