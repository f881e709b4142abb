-- What the functions promise gives the rules' moves, so that what is proved of the rules holds of every run over a lent table.
use Rattle.std.specs.Prelude.{Option as StdOption, Ok}
use Prim.Native.Nat.{ℕ, ◌≤◌}
use mathlib.Core.Bool.{Bool, true, false, cond}
use mathlib.Core.List.{List, [], ◌∷◌, ◌++◌}
use mathlib.Core.Option.{Option, none, some}
use mathlib.Core.Path.{◌≡◌, refl, sym, ap, ap₂, ◌∙◌, subst}
use native.Mathlib.Omega.{arith}
use lib.Dec.{leb}
use lib.Ieee.{Float}
use lib.ListN.{length, take, drop}
use lib.Seq.{take_at}
use Rattle.lists.specs.Tests.{split}
use Rattle.lists.specs.Members.{any, ◌⊆◌}
use Rattle.orders.specs.Order.{IsOrder}
use Rattle.orders.specs.Reach.{ComesBefore}
use Rattle.run_rules.specs.declared.Job.{Job}
use Rattle.run_rules.specs.Runner.{Given, next_start, job_is, finish_of, after_finish}
use Rattle.run_rules.specs.Claims.{starts, finishes, RunEvent, began, ended, TableReached, fresh_table_law, further_on, FreshTable, SoundTable, DeepPools, RunsOut}
use Rattle.run_rules.proofs.Moved.{moved_none}
use Rattle.run_rules.proofs.Reaching.{reached_sound}
use Rattle.run_rules.proofs.Progress.{runs_out}
use Rattle.run_core.proofs.Upstream.{rows_fresh}
use Rattle.run_columns.specs.declared.StartAsk.{StartAsk}
use Rattle.run_columns.specs.declared.Change.{Change}
use Rattle.run_columns.specs.Columns.{enough}
use Rattle.run_columns.specs.Changes.{short_change, finish_change}
use Rattle.run_columns.specs.Fresh.{fresh_table, fresh_number}
use Rattle.run_columns.specs.Chosen.{start_steps, start_pools, depths_of, asked_gate, asked_given, start_change, started_table}
use Rattle.run_columns.proofs.Made.{fresh_steps, fresh_waits, fresh_table_length}
use Rattle.run_core.specs.Passes.{start_answer}
use Rattle.run_table.specs.Promises.{Fresh, Finished, Started}
use Rattle.run_table.specs.Runs.{StartOutcome, starts_step, none_starts, start_lacks_room, FinishOutcome, notes, refuses, finish_lacks_room, start_events, finish_events, run_given, LentRun, unasked, start_asked, finish_asked, RowsOf}

-- ---- the answers by their cases
module _ {g : Given} {load : Float} {t : List Job} {r : Change} {t' : List Job} where
  by_choice : (o : Option ℕ) → next_start g load t ≡ o → r ≡ start_change t (start_answer o) → t' ≡ started_table t o → StartOutcome g load t r t'
  unfolding start_answer start_change started_table
  by_choice none e q d = none_starts e (ap (λ (c : Change). c.number) q) (ap (λ (c : Change). c.state) q) d
  by_choice (some s) e q d = starts_step s e (ap (λ (c : Change). c.number) q) (ap (λ (c : Change). c.state) q) (ap (λ (c : Change). c.step) q) d

  start_short : r ≡ short_change (length t) → t' ≡ t → StartOutcome g load t r t'
  unfolding short_change
  start_short q d = start_lacks_room (ap (λ (c : Change). c.number) q) (ap (λ (c : Change). c.state) q) d

pub start_outcome : {t : List Job} {gs ds : List ℕ} {x : StartAsk} {cs : List ℕ} {r : Change} {t' : List Job} {cs' : List ℕ} → Started t gs ds x cs r t' cs'
    → StartOutcome (asked_given gs ds x) x.load t r t'
start_outcome {t} {gs} {ds} {x} {cs} h =
    split (enough (length t) cs)
    (λ (e : enough (length t) cs ≡ true). by_choice (next_start (asked_given gs ds x) x.load t) refl (rw e at h.says) (rw e at h.table))
    (λ (e : enough (length t) cs ≡ false). start_short (rw e at h.says) (rw e at h.table))

module _ {t : List Job} {s : ℕ} {good : Bool} {r : Change} {t' : List Job} where
  by_answer : r ≡ finish_change t s good (finish_of t s) → t' ≡ after_finish t s good → FinishOutcome t s good r t'
  unfolding finish_of finish_change after_finish
  by_answer q d =
      split (any (job_is s 1) t)
      (λ (e : any (job_is s 1) t ≡ true). notes (rw e) (ap (λ (c : Change). c.number) (rw e at q)) d)
      (λ (e : any (job_is s 1) t ≡ false). refuses (rw e) (ap (λ (c : Change). c.number) (rw e at q)) (ap (λ (c : Change). c.step) (rw e at q)) (d ∙ moved_none s 1 (cond good 2 3) t e))

  finish_short : r ≡ short_change (length t) → t' ≡ t → FinishOutcome t s good r t'
  unfolding short_change
  finish_short q d = finish_lacks_room (ap (λ (c : Change). c.number) q) d

pub finish_outcome : {t : List Job} {s : ℕ} {good : Bool} {cs : List ℕ} {r : Change} {t' : List Job} {cs' : List ℕ} → Finished t s good cs r t' cs' → FinishOutcome t s good r t'
finish_outcome {t} {cs = cs} h =
    split (enough (length t) cs)
    (λ (e : enough (length t) cs ≡ true). by_answer (rw e at h.says) (rw e at h.table))
    (λ (e : enough (length t) cs ≡ false). finish_short (rw e at h.says) (rw e at h.table))

-- ---- a run's answers are moves of the rules, or change nothing
module _ {g : Given} {a : List Job} {es : List RunEvent} {t t' : List Job} {r : Change} (h : TableReached g a es t) where
  pub started_on : {load : Float} → StartOutcome g load t r t' → TableReached g a (start_events r ++ es) t'
  unfolding start_events
  started_on {load} (starts_step s e n w q d) = rw (w, q) (further_on h (starts load e d))
  started_on (none_starts e n w d) = rw (w, d) h
  started_on (start_lacks_room n w d) = rw (w, d) h

  pub finished_on : {s : ℕ} {good : Bool} → FinishOutcome t s good r t' → TableReached g a (finish_events s good r ++ es) t'
  unfolding finish_events
  finished_on {good = good} (notes e n d) = rw n (further_on h (finishes good e d))
  finished_on (refuses e n w d) = rw (n, d) h
  finished_on (finish_lacks_room n d) = rw (n, d) h

-- an ask of the run is given what the run is
asked_run : (gs ds : List ℕ) {limit : ℕ} {gate : StdOption Float} (x : StartAsk) → x.limit ≡ limit → asked_gate x ≡ gate → asked_given gs ds x ≡ run_given gs ds limit gate
unfolding asked_given
asked_run gs ds x e d = ap₂ (λ (k : ℕ) (w : StdOption Float). run_given gs ds k w) e d

pub ran_reached : {gs ds : List ℕ} {limit : ℕ} {gate : StdOption Float} {a : List Job} {es : List RunEvent} {t : List Job} → LentRun gs ds limit gate a es t → TableReached (run_given gs ds limit gate) a es t
ran_reached (unasked e) = fresh_table_law e
ran_reached {gs} {ds} (start_asked {t = t} {t' = t'} {x = x} {r = r} h e d s) =
    started_on (ran_reached h) (subst (λ (g : Given). StartOutcome g x.load t r t') (asked_run gs ds x e d) (start_outcome s))
ran_reached (finish_asked h f) = finished_on (ran_reached h) (finish_outcome f)

-- ---- from a fresh table
-- the front of a table that `fresh` has filled
pub fresh_front : {t : List Job} {ss ps : List ℕ} {r : ℕ} {t' : List Job} → Fresh t ss ps r t' → r ≡ 0 → take (length ss) t' ≡ fresh_table ss ps
unfolding fresh_number
fresh_front {t} {ss} {ps} h e =
    split (leb (length ss) (length t))
    (λ (d : leb (length ss) (length t) ≡ true). ap (take (length ss)) (rw d at h.table) ∙ take_at (fresh_table ss ps) (drop (length ss) t) (length ss) (fresh_table_length ss ps))
    (λ (d : leb (length ss) (length t) ≡ false). let q = (rw d at h.says) in absurd (omega (arith, q, e)))

module _ {Want : ℕ → Type 0} {before : ℕ → List ℕ} {l ss gs : List ℕ} (k : RowsOf Want before l ss gs) (ps ds : List ℕ) (limit : ℕ) (gate : StdOption Float) where
  pub run_fresh : FreshTable Want (run_given gs ds limit gate) (fresh_table ss ps)
  run_fresh =
      rw k.rows
      (rows_fresh start_steps before l (depths_of ds start_pools) limit gate k.once k.after k.low (fresh_waits ss ps)
      (subst (λ (x : List ℕ). x ⊆ l) (sym (fresh_steps ss ps)) k.inside) (subst (IsOrder Want (ComesBefore before)) (sym (fresh_steps ss ps)) k.order))

  -- "its pool has room", "the job limit allows it", "every listed step upstream is done", each at most once: along every run over the front of a table that
  -- `fresh` has filled
  pub run_sound : {t₀ t₁ : List Job} {r : ℕ} {es : List RunEvent} {t : List Job} → Fresh t₀ ss ps r t₁ → r ≡ 0 → LentRun gs ds limit gate (take (length ss) t₁) es t
      → SoundTable (run_given gs ds limit gate) (fresh_table ss ps) es t
  run_sound {es = es} {t = t} h e m = reached_sound run_fresh (subst (λ (a : List Job). TableReached (run_given gs ds limit gate) a es t) (fresh_front h e) (ran_reached m))

  -- "From a fresh table, with a job limit of at least 1 and no failure, whatever the load readings, allowed starts and finishes can always go on ..", and a move
  -- that the rules allow is what the functions answer with columns that are long enough
  pub run_out : 1 ≤ limit → DeepPools (run_given gs ds limit gate) (fresh_table ss ps) → RunsOut (run_given gs ds limit gate) (fresh_table ss ps)
  run_out one deep = runs_out run_fresh deep one

-- "the runner starts and names the lowest such step": where there is one, a start with columns that are long enough names it
pub start_told : {t : List Job} {gs ds : List ℕ} {x : StartAsk} {cs : List ℕ} {r : Change} {t' : List Job} {cs' : List ℕ} {s : ℕ} → Started t gs ds x cs r t' cs' → enough (length t) cs ≡ true
    → next_start (asked_given gs ds x) x.load t ≡ some s → start_events r ≡ began s ∷ []
unfolding start_events start_answer start_change
start_told h e d =
    let q = (rw (e, d) at h.says) in
    rw q

pub finish_told : {t : List Job} {s : ℕ} {good : Bool} {cs : List ℕ} {r : Change} {t' : List Job} {cs' : List ℕ} → Finished t s good cs r t' cs' → enough (length t) cs ≡ true
    → finish_of t s ≡ (Ok tt) → finish_events s good r ≡ ended s good ∷ []
unfolding finish_events finish_change
finish_told h e d =
    let q = (rw (e, d) at h.says) in
    rw q
