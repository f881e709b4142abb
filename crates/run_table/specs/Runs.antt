-- The answers of a start and of a finish by their cases, and a run: any sequence of answers over one lent table.
use Rattle.std.specs.Prelude.{ℕ, ◌<◌, Bool, List, [], ◌∷◌, ◌++◌, ◌≡◌, eqb, Float, Option, Ok, Err}
use Rattle.std.proofs.Math.Option.{none, some}
use Rattle.lists.specs.Tests.{if_b}
use Rattle.lists.specs.Members.{◌∈◌, ◌⊆◌, Once, Each}
use Rattle.orders.specs.Order.{IsOrder}
use Rattle.orders.specs.Reach.{ComesBefore}
use Rattle.run_rules.specs.declared.Job.{Job}
use Rattle.run_rules.specs.Runner.{Given, next_start, after_start, finish_of, after_finish}
use Rattle.run_rules.specs.Claims.{RunEvent, began, ended}
use Rattle.run_core.specs.Numbers.{given_in, graph_rows}
use Rattle.run_columns.specs.declared.StartAsk.{StartAsk}
use Rattle.run_columns.specs.declared.Change.{Change}
use Rattle.run_columns.specs.Chosen.{start_steps, start_pools, depths_of, asked_gate}
use Rattle.run_table.specs.Promises.{Finished, Started}

-- a start names the lowest step that may start, or tells that there is none, or that the columns are too short
pub data StartOutcome (g : Given) (load : Float) (t : List Job) (r : Change) (t' : List Job) : Type 0 where
  starts_step : (s : ℕ) → next_start g load t ≡ some s → r.number ≡ 0 → r.state ≡ 1 → r.step ≡ s → t' ≡ after_start t s → StartOutcome g load t r t'
  none_starts : next_start g load t ≡ none → r.number ≡ 0 → r.state ≡ 0 → t' ≡ t → StartOutcome g load t r t'
  start_lacks_room : r.number ≡ 1 → r.state ≡ 0 → t' ≡ t → StartOutcome g load t r t'

-- a finish is noted, or refused with 27 at the step, or the columns are too short
pub data FinishOutcome (t : List Job) (s : ℕ) (good : Bool) (r : Change) (t' : List Job) : Type 0 where
  notes : finish_of t s ≡ (Ok tt) → r.number ≡ 0 → t' ≡ after_finish t s good → FinishOutcome t s good r t'
  refuses : finish_of t s ≡ Err s → r.number ≡ 27 → r.step ≡ s → t' ≡ t → FinishOutcome t s good r t'
  finish_lacks_room : r.number ≡ 1 → t' ≡ t → FinishOutcome t s good r t'

-- what happened, by the answer alone
unfoldable pub start_events : Change → List RunEvent
start_events r = if_b (eqb r.state 1) (λ _. began r.step ∷ []) (λ _. [])

unfoldable pub finish_events : ℕ → Bool → Change → List RunEvent
finish_events s good r = if_b (eqb r.number 0) (λ _. ended s good ∷ []) (λ _. [])

-- what a run is given: rows, depths, job limit and gate
abbrev pub run_given : List ℕ → List ℕ → ℕ → Option Float → Given
run_given gs ds limit gate = given_in start_steps gs (depths_of ds start_pools) limit gate

-- StartAsk again and again over one table, from a on: the job limit and the gate stay, load readings, columns and what is finished are any. The newest event is
-- the first.
pub data LentRun (gs ds : List ℕ) (limit : ℕ) (gate : Option Float) (a : List Job) : List RunEvent → List Job → Type 0 where
  unasked : {t : List Job} → t ≡ a → LentRun gs ds limit gate a [] t
  start_asked : {es : List RunEvent} {t t' : List Job} {cs cs' : List ℕ} {x : StartAsk} {r : Change} → LentRun gs ds limit gate a es t → x.limit ≡ limit → asked_gate x ≡ gate
      → Started t gs ds x cs r t' cs' → LentRun gs ds limit gate a (start_events r ++ es) t'
  finish_asked : {es : List RunEvent} {t t' : List Job} {cs cs' : List ℕ} {s : ℕ} {good : Bool} {r : Change} → LentRun gs ds limit gate a es t
      → Finished t s good cs r t' cs' → LentRun gs ds limit gate a (finish_events s good r ++ es) t'

-- The rows gs are those of l, an order of the graph by what each of its steps comes after directly, and the steps ss are listed in an order of their own.
pub record RowsOf (Want : ℕ → Type 0) (before : ℕ → List ℕ) (l ss gs : List ℕ) : Type 0 where
  pub rows : gs ≡ graph_rows before l
  pub once : Once l
  pub after : Each (λ earlier s. (m : ℕ) → m ∈ before s → m ∈ earlier) l
  pub low : (s : ℕ) → s ∈ l → s < start_steps
  pub inside : ss ⊆ l
  pub order : IsOrder Want (ComesBefore before) ss
