-- The names that a depfile lists as mentions, one by one and as a list.
use Rattle.std.specs.Prelude.{ℕ, ◌≤◌, List, [], ◌∷◌, ◌≡◌, length, take, Option as StdOption, None}
use Rattle.std.proofs.Math.Option.{Option, none, some}
use Rattle.spec.specs.Limits.{max_path, max_written}
use Rattle.hold_reading.specs.declared.Counts.{Counts}
use Rattle.hold_reading.specs.Buffers.{Buffers, buffers}
use Rattle.apply_files.specs.Lines.{LineHeld, Writing, AddedPaths}
use Rattle.scan_depfile.specs.Answers.{listed_at}

-- ------------------------------------------------------------------ one name

-- room for all that the limits allow, and some line held
pub record HeaderAsks (word names index graph : List ℕ) (c : Counts) : Type 0 where
  pub names_long : max_written ≤ length names
  pub word_long : max_path ≤ length word
  pub texts : List ℕ
  pub bind : List ℕ
  pub line : LineHeld
  pub writing : Writing (buffers names index texts bind graph) c line

-- The name is mentioned, whatever line was held.
pub record AddsHeader (word : List ℕ) (n : ℕ) (names index graph : List ℕ) (c : Counts) (names' index' graph' : List ℕ) (r : StdOption Counts) : Type 0 where
  pub adds : (name : List ℕ) → n ≡ length name → (n ≤ length word → take n word ≡ name) → (texts bind : List ℕ) (h : LineHeld) → Writing (buffers names index texts bind graph) c h
      → AddedPaths (buffers names' index' texts bind graph') h (name ∷ []) r

-- ------------------------------------------------------------------ a list

-- A malformed list is refused as one over a limit is.
pub data AddedList (bs : Buffers) (h : LineHeld) : Option (List (List ℕ)) → StdOption Counts → Type 0 where
  names : {ns : List (List ℕ)} {r : StdOption Counts} → AddedPaths bs h ns r → AddedList bs h (some ns) r
  malformed : AddedList bs h none None

pub record HeaderListAsks (text : List ℕ) (from : ℕ) (names index graph word : List ℕ) (c : Counts) : Type 0 where
  pub within : from ≤ length text
  pub asks : HeaderAsks word names index graph c

pub record AddsHeaderList (text : List ℕ) (from : ℕ) (names index graph : List ℕ) (c : Counts) (names' index' graph' : List ℕ) (r : StdOption Counts) : Type 0 where
  pub adds : (texts bind : List ℕ) (h : LineHeld) → Writing (buffers names index texts bind graph) c h → AddedList (buffers names' index' texts bind graph') h (listed_at text from) r
