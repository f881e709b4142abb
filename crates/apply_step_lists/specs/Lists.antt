-- The lists of a build line, each with its end behind it.
use Rattle.std.specs.Prelude.{ℕ, ◌+◌, ◌≤◌, ◌<◌, true, false, List, [], ◌∷◌, ◌++◌, ◌≡◌, length, Option, Some, None}
use Rattle.spec.specs.Basics.{concat}
use Rattle.spec.specs.Limits.{max_manifest, max_steps}
use Rattle.spec.specs.Forms.{BuildLine}
use Rattle.spec.specs.Statements.{expanded, over_paths}
use Rattle.scan_classes.specs.Table.{classes}
use Rattle.cut_forms.specs.declared.BuildPlaces.{BuildPlaces}
use Rattle.cut_forms.specs.Paths.{PathsAt}
use Rattle.cut_forms.specs.Statements.{Stands}
use Rattle.hold_columns.specs.Columns.{outs_end, end_place}
use Rattle.hold_reading.specs.declared.Counts.{Counts}
use Rattle.hold_reading.specs.Held.{max_ends}
use Rattle.apply_files.specs.Lines.{LineHeld, Writing, with_paths, over_line}
use Rattle.apply_mentions.specs.Asks as mentions
use Rattle.apply_mentions.specs.Asks.{MentionRoom}
use Rattle.hold_reading.specs.Buffers.{Buffers, with_files}

-- an end more, where the mentions end
unfoldable pub with_end : LineHeld → LineHeld
with_end h =
    record {
      log = h.log;
      reading = h.reading;
      mentions = h.mentions;
      ends = h.ends ++ (length h.mentions ∷ []);
      phony = h.phony;
      made = h.made;
      rule_of = h.rule_of;
    }

unfoldable pub with_lists : List (List (List ℕ)) → LineHeld → LineHeld
with_lists [] h = h
with_lists (ps ∷ pss) h = with_lists pss (with_end (with_paths ps h))

-- The lists are mentioned, or the line is over a limit, whatever it mentions after them.
pub data ListsMentioned (bs : Buffers) (h : LineHeld) (pss : List (List (List ℕ))) : Option Counts → Type 0 where
  on : {c : Counts} → Writing bs c (with_lists pss h) → over_paths (concat pss) ≡ false → ListsMentioned bs h pss (Some c)
  over : ((more : List (List ℕ)) → over_line (concat pss ++ more) h.reading ≡ true) → ListsMentioned bs h pss None

-- ------------------------------------------------------------------ one list, whose end is number e of all

pub record StepListAsks (t l : List ℕ) (bs : Buffers) (word : List ℕ) (c : Counts) (at e : ℕ) : Type 0 where
  pub asks : mentions.MentionListAsks t l bs word c at
  pub ended : length asks.line.ends ≡ e
  pub low : e < max_ends

pub record MentionsList (l : List ℕ) (at e : ℕ) (bs : Buffers) (c : Counts) (names' index' graph' : List ℕ) (r : Option Counts) : Type 0 where
  pub listed : (raw : List (List ℕ)) → PathsAt l at raw → (h : LineHeld) → Writing bs c h → length h.ends ≡ e
      → ListsMentioned (with_files bs names' index' graph') h (expanded h.reading raw ∷ []) r

-- ------------------------------------------------------------------ two lists

pub record TwoAsks (t l : List ℕ) (bs : Buffers) (word : List ℕ) (c : Counts) (at next e : ℕ) : Type 0 where
  pub table : t ≡ classes
  pub short : length l ≤ max_manifest
  pub first : List (List ℕ)
  pub second : List (List ℕ)
  pub first_stands : PathsAt l at first
  pub second_stands : PathsAt l next second
  pub room : MentionRoom bs.names word
  pub line : LineHeld
  pub writing : Writing bs c line
  pub ended : length line.ends ≡ e
  pub low : e + 1 < max_ends

pub record Two (l : List ℕ) (at next e : ℕ) (bs : Buffers) (c : Counts) (names' index' graph' : List ℕ) (r : Option Counts) : Type 0 where
  pub listed : (first second : List (List ℕ)) → PathsAt l at first → PathsAt l next second → (h : LineHeld) → Writing bs c h → length h.ends ≡ e
      → ListsMentioned (with_files bs names' index' graph') h (expanded h.reading first ∷ expanded h.reading second ∷ []) r

-- ------------------------------------------------------------------ the four of a line

abbrev pub lists_of : BuildLine → List (List (List ℕ))
lists_of b = b.outs ∷ b.ins ∷ b.implicit ∷ b.order_only ∷ []

pub record FourAsks (t l : List ℕ) (bs : Buffers) (word : List ℕ) (c : Counts) (p : BuildPlaces) : Type 0 where
  pub table : t ≡ classes
  pub short : length l ≤ max_manifest
  pub raw : BuildLine
  pub stands : Stands l p raw
  pub room : MentionRoom bs.names word
  pub line : LineHeld
  pub writing : Writing bs c line
  pub ended : length line.ends ≡ end_place c.steps outs_end
  pub few : c.steps < max_steps

pub record Four (l : List ℕ) (bs : Buffers) (c : Counts) (p : BuildPlaces) (names' index' graph' : List ℕ) (r : Option Counts) : Type 0 where
  pub listed : (b : BuildLine) → Stands l p b → (h : LineHeld) → Writing bs c h → length h.ends ≡ end_place c.steps outs_end
      → ListsMentioned (with_files bs names' index' graph') h (expanded h.reading b.outs ∷ expanded h.reading b.ins ∷ expanded h.reading b.implicit ∷ expanded h.reading b.order_only ∷ []) r
