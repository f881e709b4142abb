-- The step that a text is asked of, in the table of bindings and the columns of the graph.
use Rattle.std.specs.Prelude.{ℕ, ◌+◌, ◌-◌, ◌/◌, ◌%◌, ◌≤◌, ◌<◌, List, true, false, ◌||◌, ◌≡◌, leb, eqb, length, get_or, Option, Some, None}
use Rattle.lists.specs.Tests.{if_b}
use Rattle.lists.specs.Parts.{part}
use Rattle.spec.specs.Limits.{max_steps}
use Rattle.spec.specs.Reading.{Reading, is_phony, keys_of}
use Rattle.spec.specs.Graph.{step_at}
use Rattle.spec.specs.Text.{deep}
use Rattle.hold_columns.specs.Columns.{last_end}
use Rattle.hold_bindings.specs.Log.{Logged, of_rules, of_keys, entry_at, newest, bound_by}
use Rattle.hold_bindings.specs.Held.{max_entries, HoldsBindings}
use Rattle.hold_reading.specs.declared.Counts.{Counts}
use Rattle.hold_reading.specs.Held.{HoldsBound, end_in, rule_start, defaults_start, scope_unit, Graphed}
use Rattle.text_lookup.specs.declared.Asked.{Asked}

-- ------------------------------------------------------------------ its rule

pub record HasRule (texts bind : List ℕ) (count k : ℕ) : Type 0 where
  pub log : List Logged
  pub held : HoldsBindings log texts bind count
  pub below : k < count
  pub owner : (entry_at k log).owner ≡ of_rules

-- Entry r is the newest declaration of the name that entry k declares.
pub record Declares (texts bind : List ℕ) (count k r : ℕ) : Type 0 where
  pub newest : (log : List Logged) → HoldsBindings log texts bind count → (entry_at k log).owner ≡ of_rules → newest of_rules (entry_at k log).name log ≡ Some r

-- ------------------------------------------------------------------ its files

-- the places of the ends and of the rule of a step are there
pub record InGraph (graph : List ℕ) (step : ℕ) : Type 0 where
  pub low : step < max_steps
  pub long : defaults_start ≤ length graph

-- where the outputs of step s start: where the mentions of the step before it end
unfoldable pub outputs_from : List ℕ → ℕ → ℕ
outputs_from graph s = if_b (eqb s 0) (λ _. 0) (λ _. end_in graph (s - 1) last_end)

-- ------------------------------------------------------------------ the step

-- What is known of a reading's step by its number.
pub record Picked (graph : List ℕ) (c : Counts) (step : ℕ) (a : Asked) (log : List Logged) (rd : Reading) : Type 0 where
  pub there : step < length rd.steps
  pub command : is_phony (step_at rd.steps step).rule ≡ false
  pub number : a.step ≡ step
  pub entries : a.entries ≡ c.entries
  pub files : a.files ≡ c.files
  pub whole : a.depth ≡ deep
  pub rule_low : a.rule < max_entries
  pub scope : a.scope ≡ (step_at rd.steps step).scope
  pub keys : keys_of (step_at rd.steps step).rule rd.rules ≡ bound_by (of_keys a.rule) log
  pub outs_ordered : a.outs ≤ a.ins
  pub ins_ordered : a.ins ≤ a.rest
  pub within : a.rest ≤ length graph
  pub outs : part graph a.outs a.ins ≡ (step_at rd.steps step).outs
  pub ins : part graph a.ins a.rest ≡ (step_at rd.steps step).ins
  pub low : (i : ℕ) → a.outs ≤ i → i < a.rest → get_or graph i 0 < length rd.files

pub record Picks (texts bind graph : List ℕ) (c : Counts) (step : ℕ) (a : Asked) : Type 0 where
  pub picked : (log : List Logged) (rd : Reading) → HoldsBound log texts bind c rd → Graphed log graph c rd → Picked graph c step a log rd

-- some reading is held, and these are the entry of the step's rule and its scope
pub record PickAsk (texts bind graph : List ℕ) (c : Counts) (step k scope : ℕ) : Type 0 where
  pub log : List Logged
  pub reading : Reading
  pub bound : HoldsBound log texts bind c reading
  pub graphed : Graphed log graph c reading
  pub there : step < c.steps
  pub ruled : (get_or graph (rule_start + step) 0 % scope_unit ≡ 0) → ⊥
  pub entry : k ≡ get_or graph (rule_start + step) 0 % scope_unit - 1
  pub stands : scope ≡ get_or graph (rule_start + step) 0 / scope_unit

-- some reading is held
pub record ReadingHeld (texts bind graph : List ℕ) (c : Counts) : Type 0 where
  pub log : List Logged
  pub reading : Reading
  pub bound : HoldsBound log texts bind c reading
  pub graphed : Graphed log graph c reading

-- "no such step, or it is phony" (18), or the step
unfoldable pub AsksStep : List ℕ → List ℕ → List ℕ → Counts → ℕ → Option Asked → Type 0
AsksStep texts bind graph c step None =
    (log : List Logged) (rd : Reading) → HoldsBound log texts bind c rd → Graphed log graph c rd → leb (length rd.steps) step || is_phony (step_at rd.steps step).rule ≡ true
AsksStep texts bind graph c step (Some a) = Picks texts bind graph c step a
