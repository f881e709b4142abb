-- What the buffers hold within a line that mentions files: the reading with the mentions so far, and the columns of the graph as they are then.
use Rattle.std.specs.Prelude.{ℕ, ◌+◌, ◌≤◌, Bool, true, false, ◌||◌, List, [], ◌∷◌, ◌++◌, ◌≡◌, length, Option, Some, None}
use Rattle.lists.specs.Tests.{if_b}
use Rattle.spec.specs.Basics.{among}
use Rattle.spec.specs.Limits.{max_mentions}
use Rattle.spec.specs.Reading.{Reading, number_of, mention}
use Rattle.spec.specs.Statements.{mentioned, over_paths, over_counts}
use Rattle.arena.specs.Columns.{Lies}
use Rattle.hold_names.specs.Table.{HoldsNames}
use Rattle.hold_bindings.specs.Log.{Logged}
use Rattle.hold_reading.specs.declared.Counts.{Counts}
use Rattle.hold_reading.specs.Held.{HoldsBound, capacities}
use Rattle.hold_reading.specs.Buffers.{Buffers}

-- what is held: the log, the reading, and the columns of the graph but the defaults
pub record LineHeld : Type 0 where
  pub log : List Logged
  pub reading : Reading
  pub mentions : List ℕ
  pub ends : List ℕ
  pub phony : List ℕ
  pub made : List ℕ
  pub rule_of : List ℕ

-- the columns of the graph lie in it
pub record Columns (graph mentions ends phony made rule_of defaults : List ℕ) : Type 0 where
  pub lies : Lies capacities graph (mentions ∷ ends ∷ phony ∷ made ∷ rule_of ∷ defaults ∷ [])

pub record Writing (bs : Buffers) (c : Counts) (h : LineHeld) : Type 0 where
  pub named : HoldsNames bs.names bs.index c.files h.reading.files
  pub bound : HoldsBound h.log bs.texts bs.bind c h.reading
  pub columns : Columns bs.graph h.mentions h.ends h.phony h.made h.rule_of h.reading.defaults
  pub filed : length h.made ≡ length h.reading.files
  pub paths_counted : c.paths ≡ length h.mentions
  pub defaults_counted : c.defaults ≡ length h.reading.defaults
  pub mentions_counted : c.mentions ≡ h.reading.mentions
  pub few_mentions : c.paths + c.defaults ≤ c.mentions
  pub mentions_low : c.mentions ≤ max_mentions

-- ------------------------------------------------------------------ mentions

-- a file that is new has no maker
unfoldable pub made_with : List ℕ → List (List ℕ) → List ℕ → List ℕ
made_with p files made = if_b (among p files) (λ _. made) (λ _. made ++ (0 ∷ []))

-- one path more
unfoldable pub with_mention : List ℕ → LineHeld → LineHeld
with_mention p h =
    record {
      log = h.log;
      reading = mentioned (p ∷ []) h.reading;
      mentions = h.mentions ++ (number_of p (mention h.reading.files (p ∷ [])) ∷ []);
      ends = h.ends;
      phony = h.phony;
      made = made_with p h.reading.files h.made;
      rule_of = h.rule_of;
    }

unfoldable pub with_paths : List (List ℕ) → LineHeld → LineHeld
with_paths [] h = h
with_paths (p ∷ ps) h = with_paths ps (with_mention p h)

-- are these mentions over a limit: paths over 255 bytes, or files, mentions and bytes in all
unfoldable pub over_line : List (List ℕ) → Reading → Bool
over_line ps rd = over_paths ps || over_counts (mentioned ps rd)

-- The paths are mentioned, or the line is over a limit, whatever it mentions after them.
pub data AddedPaths (bs : Buffers) (h : LineHeld) (ps : List (List ℕ)) : Option Counts → Type 0 where
  on : {c : Counts} → Writing bs c (with_paths ps h) → over_paths ps ≡ false → AddedPaths bs h ps (Some c)
  over : ((more : List (List ℕ)) → over_line (ps ++ more) h.reading ≡ true) → AddedPaths bs h ps None
