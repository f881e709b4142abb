-- Equal outputs in a line, found by a table of the outputs so far that is sorted by what they expand to.
use Rattle.std.specs.Prelude.{ℕ, ◌+◌, ◌*◌, ◌/◌, ◌%◌, ◌≤◌, ◌<◌, Bool, true, false, ◌||◌, List, map, ◌≡◌, length, take, get_or, Option, Some, None}
use Rattle.std.proofs.Math.Option.{none}
use Rattle.lists.specs.Bytes.{eq_bytes}
use Rattle.lists.specs.Order.{order_bytes}
use Rattle.lists.specs.Parts.{part}
use Rattle.std.specs.declared.cmp.Ordering.{Ordering}
use Rattle.spec.specs.Basics.{among}
use Rattle.spec.specs.Dollars.{bad_dollar}
use Rattle.spec.specs.Limits.{max_manifest}
use Rattle.spec.specs.Reading.{Reading}
use Rattle.spec.specs.Statements.{expanded, twice}
use Rattle.arena.specs.Rising.{RisingPaths, PathBetween}
use Rattle.scan_classes.specs.Table.{classes}
use Rattle.cut_forms.specs.Paths.{PathsAt}
use Rattle.hold_bindings.specs.Log.{Logged}
use Rattle.expand_parts.specs.Runs.{ExpandReady}
use Rattle.hold_reading.specs.Held.{HoldsBound}
use Rattle.hold_reading.specs.declared.Counts.{Counts}
use Rattle.apply_path_checks.specs.Checks.{path_of}
use Rattle.apply_equal_outputs.specs.Kept.{table_start, ColumnsKept}

-- ---- the table

-- An entry is where a path lies in the line, in one number: a line has fewer than 65,536 bytes.
abbrev pub entry_of : ℕ → ℕ → ℕ
entry_of from to = from * 65536 + to

unfoldable pub raw_of : List ℕ → ℕ → List ℕ
raw_of l v = part l (v / 65536) (v % 65536)

pub record OutputLies (l : List ℕ) (v : ℕ) : Type 0 where
  pub forward : v / 65536 ≤ v % 65536
  pub within : v % 65536 ≤ length l
  pub sound : bad_dollar (raw_of l v) ≡ none

-- what the paths of a table expand to
unfoldable pub paths_of : Reading → List ℕ → List ℕ → List (List ℕ)
unfolding path_of raw_of
paths_of rd l table = map (λ v. path_of rd (raw_of l v)) table

pub record OutputsSorted (l texts bind : List ℕ) (c : Counts) (table : List ℕ) : Type 0 where
  pub lies : (k : ℕ) → k < length table → OutputLies l (get_or table k 0)
  pub risen : (log : List Logged) (rd : Reading) → HoldsBound log texts bind c rd → RisingPaths (paths_of rd l table)

-- ---- one path and the table

-- a path of the line that is ready to be expanded
pub record PlaceAsks (t l texts bind : List ℕ) (count from to : ℕ) : Type 0 where
  pub short : length l ≤ max_manifest
  pub forward : from ≤ to
  pub within : to ≤ length l
  pub ready : ExpandReady t (part l from to) texts bind count 0

pub record EntryAsks (t l texts bind : List ℕ) (count from to : ℕ) (table : List ℕ) (k : ℕ) : Type 0 where
  pub path : PlaceAsks t l texts bind count from to
  pub within : k < length table
  pub lies : OutputLies l (get_or table k 0)

-- how the path compares with that of entry k
pub record PathOrdered (l texts bind : List ℕ) (c : Counts) (from to : ℕ) (table : List ℕ) (k : ℕ) (r : Ordering) : Type 0 where
  pub answer : (log : List Logged) (rd : Reading) → HoldsBound log texts bind c rd → r ≡ order_bytes (path_of rd (part l from to)) (path_of rd (raw_of l (get_or table k 0)))

pub record SortedAsks (t l texts bind : List ℕ) (c : Counts) (from to : ℕ) (table : List ℕ) : Type 0 where
  pub path : PlaceAsks t l texts bind c.entries from to
  pub sorted : OutputsSorted l texts bind c table

-- TablePlace p is the one where the path belongs.
pub record Belongs (l texts bind : List ℕ) (c : Counts) (from to : ℕ) (table : List ℕ) (p : ℕ) : Type 0 where
  pub within : p ≤ length table
  pub between : (log : List Logged) (rd : Reading) → HoldsBound log texts bind c rd → PathBetween (paths_of rd l table) (path_of rd (part l from to)) p p

pub record PlaceIn (l texts bind : List ℕ) (c : Counts) (from to : ℕ) (table : List ℕ) (r : Option ℕ) : Type 0 where
  pub taken : r ≡ None → (log : List Logged) (rd : Reading) → HoldsBound log texts bind c rd → among (path_of rd (part l from to)) (paths_of rd l table) ≡ true
  pub free : {p : ℕ} → r ≡ Some p → Belongs l texts bind c from to table p

pub record AddAsks (t l texts bind : List ℕ) (c : Counts) (from to : ℕ) (table : List ℕ) (n : ℕ) : Type 0 where
  pub path : PlaceAsks t l texts bind c.entries from to
  pub room : n < length table
  pub sorted : OutputsSorted l texts bind c (take n table)

-- The path was not in the table and is now.
pub record Grown (l texts bind : List ℕ) (c : Counts) (from to : ℕ) (old new : List ℕ) : Type 0 where
  pub sorted : OutputsSorted l texts bind c new
  pub members : (log : List Logged) (rd : Reading) → HoldsBound log texts bind c rd → (p : List ℕ) → among p (paths_of rd l new) ≡ eq_bytes p (path_of rd (part l from to)) || among p (paths_of rd l old)

-- whether the path is one of the first n entries' paths
pub record PathAdded (l texts bind : List ℕ) (c : Counts) (from to : ℕ) (table : List ℕ) (n : ℕ) (table' : List ℕ) (r : Bool) : Type 0 where
  pub long : length table' ≡ length table
  pub answer : (log : List Logged) (rd : Reading) → HoldsBound log texts bind c rd → r ≡ among (path_of rd (part l from to)) (paths_of rd l (take n table))
  pub grown : r ≡ false → Grown l texts bind c from to (take n table) (take (n + 1) table')

-- ---- a whole list

-- Some reading is held.
pub record TwiceAsks (t l texts bind : List ℕ) (c : Counts) (start : ℕ) : Type 0 where
  pub table : t ≡ classes
  pub short : length l ≤ max_manifest
  pub raw : List (List ℕ)
  pub stands : PathsAt l start raw
  pub log : List Logged
  pub reading : Reading
  pub bound : HoldsBound log texts bind c reading

-- Each path has a byte, so a line has no more paths than bytes.
pub record TableAsks (t l texts bind : List ℕ) (c : Counts) (start : ℕ) (table : List ℕ) : Type 0 where
  pub list : TwiceAsks t l texts bind c start
  pub room : max_manifest ≤ length table

pub record ComparesOutputs (l texts bind : List ℕ) (c : Counts) (start : ℕ) (table table' : List ℕ) (r : Bool) : Type 0 where
  pub long : length table' ≡ length table
  pub answer : (ps : List (List ℕ)) → PathsAt l start ps → (log : List Logged) (rd : Reading) → HoldsBound log texts bind c rd → r ≡ twice (expanded rd ps)

pub record RoomAsks (t l texts bind graph : List ℕ) (c : Counts) (start : ℕ) : Type 0 where
  pub list : TwiceAsks t l texts bind c start
  pub scratch : table_start + max_manifest ≤ length graph

-- "output made twice (also within one step)" (8)
pub record Twice (l texts bind graph : List ℕ) (c : Counts) (start : ℕ) (graph' : List ℕ) (r : Bool) : Type 0 where
  pub kept : ColumnsKept graph graph'
  pub answer : (ps : List (List ℕ)) → PathsAt l start ps → (log : List Logged) (rd : Reading) → HoldsBound log texts bind c rd → r ≡ twice (expanded rd ps)
