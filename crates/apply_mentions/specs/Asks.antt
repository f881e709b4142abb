-- What mentions ask: room for all that the limits allow, and some line held.
use Rattle.std.specs.Prelude.{ℕ, ◌≤◌, List, [], ◌∷◌, ◌≡◌, length, Option}
use Rattle.std.proofs.Math.Option.{none}
use Rattle.spec.specs.Limits.{max_manifest, max_value, max_written}
use Rattle.spec.specs.Dollars.{bad_dollar}
use Rattle.spec.specs.Statements.{expanded}
use Rattle.scan_classes.specs.Table.{classes}
use Rattle.cut_forms.specs.Paths.{PathsAt}
use Rattle.hold_reading.specs.declared.Counts.{Counts}
use Rattle.apply_files.specs.Lines.{LineHeld, Writing, AddedPaths}
use Rattle.hold_reading.specs.Buffers.{Buffers, with_files}

-- so that only a limit can be met
pub record MentionRoom (names word : List ℕ) : Type 0 where
  pub names_long : max_written ≤ length names
  pub word_long : max_value ≤ length word

-- ------------------------------------------------------------------ raw paths

pub record MentionAsks (t raw : List ℕ) (bs : Buffers) (word : List ℕ) (c : Counts) : Type 0 where
  pub table : t ≡ classes
  pub short : length raw ≤ max_manifest
  pub dollars : bad_dollar raw ≡ none
  pub room : MentionRoom bs.names word
  pub line : LineHeld
  pub writing : Writing bs c line

-- The raw path is expanded and mentioned, whatever line was held.
pub record Mentions (raw : List ℕ) (bs : Buffers) (c : Counts) (names' index' graph' : List ℕ) (r : Option Counts) : Type 0 where
  pub marks : (h : LineHeld) → Writing bs c h → AddedPaths (with_files bs names' index' graph') h (expanded h.reading (raw ∷ [])) r

-- ------------------------------------------------------------------ lists of raw paths

pub record MentionListAsks (t l : List ℕ) (bs : Buffers) (word : List ℕ) (c : Counts) (at : ℕ) : Type 0 where
  pub table : t ≡ classes
  pub short : length l ≤ max_manifest
  pub raw : List (List ℕ)
  pub stands : PathsAt l at raw
  pub room : MentionRoom bs.names word
  pub line : LineHeld
  pub writing : Writing bs c line

pub record MentionsAll (l : List ℕ) (at : ℕ) (bs : Buffers) (c : Counts) (names' index' graph' : List ℕ) (r : Option Counts) : Type 0 where
  pub marks : (raw : List (List ℕ)) → PathsAt l at raw → (h : LineHeld) → Writing bs c h
      → AddedPaths (with_files bs names' index' graph') h (expanded h.reading raw) r
