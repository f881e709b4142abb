-- What every line that binds a name shares: its limits, by the counts alone, and its entry in the table of bindings.
use Rattle.std.specs.Prelude.{ℕ, ◌+◌, ◌≤◌, ◌<◌, Bool, ◌||◌, List, ◌∷◌, ◌≡◌, ltb, length}
use Rattle.spec.specs.Limits.{max_name, max_bindings, max_value, max_written}
use Rattle.spec.specs.Reading.{Reading}
use Rattle.hold_bindings.specs.Log.{Logged, of_marks}
use Rattle.hold_bindings.specs.Held.{max_owner, HoldsBindings}
use Rattle.hold_reading.specs.declared.Counts.{Counts}
use Rattle.hold_reading.specs.Held.{HoldsBound}
use Rattle.hold_reading.specs.Binds.{counted_more}

-- is a line over a limit, whose name and value have so many bytes
unfoldable pub binding_over : ℕ → ℕ → Counts → Bool
binding_over n v c = ltb max_name n || ltb max_value v || (ltb max_bindings (c.bindings + 1) || ltb max_written (c.written + v))

-- the counts leave room for this entry
pub record EntryFits (c : Counts) (e : Logged) : Type 0 where
  pub name : length e.name ≤ max_name
  pub few : c.bindings < max_bindings
  pub low : c.written + length e.value ≤ max_written
  pub owner : e.owner ≤ max_owner
  pub binds : e.owner ≡ of_marks → ⊥

-- some reading is held, with room for this entry
pub record EntryReady (texts bind : List ℕ) (c : Counts) (e : Logged) : Type 0 where
  pub log : List Logged
  pub reading : Reading
  pub bound : HoldsBound log texts bind c reading
  pub fits : EntryFits c e

-- this entry was put into the table
pub record PutsBinding (texts bind : List ℕ) (c : Counts) (e : Logged) (texts' bind' : List ℕ) (r : Counts) : Type 0 where
  pub counted : r ≡ counted_more (length e.value) c
  pub held : (log : List Logged) (rd : Reading) → HoldsBound log texts bind c rd → HoldsBindings (e ∷ log) texts' bind' (c.entries + 1)
