-- Lines that were found, read one after the other up to the first that opens a file.
use Rattle.std.specs.Prelude.{ℕ, ◌+◌, ◌^◌, ◌≤◌, ◌<◌, Bool, List, [], ◌∷◌, ◌++◌, map, ◌≡◌, length, drop, get_or, Result}
use Rattle.spec.specs.Limits.{max_manifest, max_place}
use Rattle.spec.specs.Reading.{Reading}
use Rattle.spec.specs.Lines.{Line}
use Rattle.spec.specs.Statements.{Block, Outcome, goes_on}
use Rattle.spec.specs.Manifest.{and_then, read_line, Opener, opening}
use Rattle.scan_classes.specs.Table.{classes}
use Rattle.scan_cursor.specs.Spans.{line_in}
use Rattle.scan_cursor.specs.Found.{lines_in, Bounds}
use Rattle.hold_reading.specs.declared.Counts.{Counts}
use Rattle.hold_reading.specs.declared.Open.{Open}
use Rattle.hold_reading.specs.declared.LineTurn.TheVariants.{Opens as TurnOpens}
use Rattle.hold_reading.specs.Buffers.{Buffers}
use Rattle.apply_statements.specs.Asks.{LinesRoom, BetweenLines, LineMeets, TurnMeets}
use Rattle.apply_stretch.specs.declared.Stretch.{Stretch}
use Rattle.apply_stretch.specs.declared.Stretch.TheVariants.{Answered, Opens}
use Rattle.spec.specs.declared.Refusal.{Refusal}
use Rattle.hold_reading.specs.declared.State.{State}
use Rattle.hold_reading.specs.Went.{went}

-- a line of a text at its place among all texts
abbrev pub placed_at : ℕ → Line → Line
placed_at base l = record { start = base + l.start; text = l.text; ended = l.ended }

-- the lines of these numbers, at their places among all texts
abbrev pub lines_placed : ℕ → List ℕ → List ℕ → List Line
lines_placed base m ns = map (placed_at base) (lines_in m ns)

-- the line of the two numbers from k on
abbrev pub found_line : ℕ → List ℕ → List ℕ → ℕ → Line
found_line base m found k = placed_at base (line_in m (get_or found k 0) (get_or found (k + 1) 0))

-- these lines, one after the other, a file that one of them opens before those behind it; what they leave open stays open
unfoldable pub read_each : Opener → List Line → Reading → Block → Outcome
read_each via [] rd b = goes_on rd b
read_each via (l ∷ ls) rd b = and_then (opening via (read_line l rd b)) (read_each via ls)

-- Of the numbers from k₀ on the lines up to number k are read, and were answered by a.
pub record LinesDone (via : Opener) (base : ℕ) (m found : List ℕ) (k₀ : ℕ) (bs₀ : Buffers) (c₀ : Counts) (o₀ : Open) (bs : Buffers) (a : Result State Refusal) (k : ℕ) : Type 0 where
  pub done : List Line
  pub left : lines_placed base m (drop k₀ found) ≡ done ++ lines_placed base m (drop k found)
  pub bounds : Bounds m (drop k found)
  pub meets : LineMeets bs₀ c₀ o₀ (read_each via done) bs a

-- ---- asks

-- lines that were found as numbers, from number k on, of a text that begins at a place among all texts
pub record StretchAsk (t m : List ℕ) (base : ℕ) (found : List ℕ) (k : ℕ) (bs : Buffers) (word : List ℕ) (c : Counts) (o : Open) : Type 0 where
  pub table : t ≡ classes
  pub short : length m ≤ max_manifest
  pub near : base + length m ≤ max_place
  pub few : length found < 2 ^ 32
  pub bounds : Bounds m (drop k found)
  pub room : LinesRoom bs.names bs.graph word
  pub between : BetweenLines bs c o

-- ---- promises

-- The line at number j opens a file, where the lines before it, none of which opens one, leave what some buffers hold.
pub record StretchOpens (base : ℕ) (m found : List ℕ) (k : ℕ) (bs : Buffers) (c : Counts) (o : Open) (bs' : Buffers) (j : ℕ) (d : Counts) (sub : Bool) (from to : ℕ) : Type 0 where
  pub forward : k ≤ j
  pub below : j < length found
  pub held : Buffers
  pub counts : Counts
  pub block : Open
  pub before : (via : Opener) → LinesDone via base m found k bs c o held (went counts block) j
  pub turn : TurnMeets (found_line base m found j) held counts block (read_line (found_line base m found j)) bs' (TurnOpens d sub from to)

-- Whatever files there are: no line opens one, or one does.
pub data StretchMeets (base : ℕ) (m found : List ℕ) (k : ℕ) (bs : Buffers) (c : Counts) (o : Open) (bs' : Buffers) : Stretch → Type 0 where
  stretch_answers : {a : Result State Refusal} → ((via : Opener) → LineMeets bs c o (read_each via (lines_placed base m (drop k found))) bs' a) → StretchMeets base m found k bs c o bs' (Answered a)
  stretch_opens : {j : ℕ} {d : Counts} {sub : Bool} {from to : ℕ} → StretchOpens base m found k bs c o bs' j d sub from to
      → StretchMeets base m found k bs c o bs' (Opens j d sub from to)
