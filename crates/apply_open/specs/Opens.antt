-- A line that opens a file: what its path opens, and the scope of what is read of that file.
use Rattle.std.specs.Prelude.{ℕ, ◌+◌, ◌≤◌, ◌<◌, Bool, true, false, ◌||◌, List, ◌∷◌, ◌≡◌, ltb, length, Result, Ok, Err}
use Rattle.spec.specs.Limits.{max_path, max_value, max_written, max_opened}
use Rattle.spec.specs.Dollars.{expand}
use Rattle.spec.specs.Reading.{Variables, Reading, scope_at, file_var, number_of}
use Rattle.spec.specs.Statements.{Block, no_block, Outcome, goes_on, refused}
use Rattle.spec.specs.Manifest.{with_opened, entered, back_in, open_path}
use Rattle.scan_bundle.specs.Bundles.{LaidBundle}
use Rattle.hold_bindings.specs.Log.{Logged}
use Rattle.expand_parts.specs.Runs.{ExpandReady}
use Rattle.hold_reading.specs.declared.Counts.{Counts}
use Rattle.hold_reading.specs.declared.Open.TheVariants.{Nothing}
use Rattle.hold_reading.specs.Binds.{Known, SoundBlock, Binds, Meets}
use Rattle.apply_open.specs.declared.OpenedFile.{OpenedFile}
use Rattle.spec.specs.declared.Refusal.{Refusal}
use Rattle.hold_reading.specs.Went.{went}

-- ---- the path

-- is a path of n bytes over a limit by the counts
unfoldable pub open_over : ℕ → Counts → Bool
open_over n c = ltb max_path n || ltb max_written (c.written + n)

-- a bundle, a sound raw path, room for a path within its limit, and the table of bindings where no block is open
pub record OpenAsks (t b raw texts bind word : List ℕ) (c : Counts) : Type 0 where
  pub laid : LaidBundle b
  pub ready : ExpandReady t raw texts bind c.entries 0
  pub room : max_value ≤ length word
  pub sound : SoundBlock texts bind c Nothing

-- The path names record k, which is read with one file more opened, by a path of n bytes.
pub record NamesRecord (names : List (List ℕ)) (start : ℕ) (p : List ℕ) (rd : Reading) (k n : ℕ) : Type 0 where
  pub number : k ≡ number_of p names
  pub below : k < length names
  pub long : n ≡ length p
  pub few : rd.opened < max_opened
  pub low : rd.written + n ≤ max_written
  pub path : (reads : ℕ → Reading → Outcome) (sub : Bool) → open_path names reads start sub p rd ≡ reads k (with_opened n (entered sub rd.vars) rd)

-- whatever is made of the record that a path names
unfoldable pub OpensAs : List (List ℕ) → ℕ → List ℕ → Reading → Result (ℕ × ℕ) Refusal → Type 0
OpensAs names start p rd (Ok (k, n)) = NamesRecord names start p rd k n
OpensAs names start p rd (Err r) = (reads : ℕ → Reading → Outcome) (sub : Bool) → open_path names reads start sub p rd ≡ refused r

-- The answer is that of the rules, whatever reading is held.
pub record OpensPath (names : List (List ℕ)) (texts bind : List ℕ) (c : Counts) (raw : List ℕ) (start : ℕ) (r : Result (ℕ × ℕ) Refusal) : Type 0 where
  pub answer : (log : List Logged) (rd : Reading) (b : Block) → Known log texts bind c rd b Nothing → OpensAs names start (expand (file_var rd.vars) raw) rd r

-- ---- the scope

-- the table of bindings, with room for one file more by a path of n bytes
pub record EnterAsks (texts bind : List ℕ) (c : Counts) (n : ℕ) : Type 0 where
  pub sound : SoundBlock texts bind c Nothing
  pub few : c.opened < max_opened
  pub low : c.written + n ≤ max_written

-- The file is opened, in a new scope or not; the scope is the one that was read in.
pub record Enters (sub : Bool) (texts bind : List ℕ) (c : Counts) (n : ℕ) (texts' bind' : List ℕ) (r : OpenedFile) : Type 0 where
  pub meets : Meets texts bind c Nothing (λ rd b. goes_on (with_opened n (entered sub rd.vars) rd) no_block) texts' bind' (went r.counts Nothing)
  pub scope : (log : List Logged) (rd : Reading) (b : Block) → Known log texts bind c rd b Nothing → r.scope ≡ rd.vars.current

-- what is read in was entered from scope k, or is scope k
unfoldable pub EnteredFrom : Bool → ℕ → Variables → Type 0
EnteredFrom false k vs = vs.current ≡ k
EnteredFrom true k vs = (k < length vs.scopes) × ((scope_at vs.scopes vs.current).outer ≡ k ∷ (scope_at vs.scopes k).outer)

pub record LeaveAsks (sub : Bool) (scope : ℕ) (texts bind : List ℕ) (c : Counts) : Type 0 where
  pub sound : SoundBlock texts bind c Nothing
  pub inside : EnteredFrom sub scope sound.reading.vars

-- The scope is gone back to, whatever reading is held that was entered from it.
pub record LeavesScope (sub : Bool) (scope : ℕ) (texts bind : List ℕ) (c : Counts) (texts' bind' : List ℕ) (r : Counts) : Type 0 where
  pub agrees : (log : List Logged) (rd : Reading) (b : Block) → Known log texts bind c rd b Nothing → EnteredFrom sub scope rd.vars
      → Binds log c rd texts' bind' (back_in scope rd b) (went r Nothing)
