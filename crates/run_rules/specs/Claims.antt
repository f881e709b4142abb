-- What document 02 says of the runner, in words: what may start, what is started, and what holds along any sequence of moves.
use Rattle.std.specs.Prelude.{ℕ, ◌+◌, ◌*◌, ◌≤◌, ◌<◌, Bool, true, ◌&&◌, List, [], ◌∷◌, map, ◌⊎◌, ◌↔◌, ◌≡◌, ltb, length, Float, Option, Some, None, Ok}
use Rattle.std.proofs.Math.Option.{some}
use Rattle.std.specs.Float.{nan}
use Rattle.std.specs.Float.Ieee.{lt}
use Rattle.lists.specs.Members.{◌∈◌, Once}
use Rattle.orders.specs.Order.{IsOrder}
use Rattle.orders.specs.Greedy.{By}
use Rattle.run_rules.specs.declared.Job.{Job}
use Rattle.run_rules.specs.Runner.{Given, count_jobs, running_jobs, running_in, next_start, after_start, after_finish, finish_of, all_done}

-- a record of the table
infix 50 ◌among◌
pub data ◌among◌ (j : Job) : List Job → Type 0 where
  first : {k : Job} {t : List Job} → j ≡ k → j among k ∷ t
  later : {k : Job} {t : List Job} → j among t → j among k ∷ t

abbrev pub steps_of : List Job → List ℕ
steps_of t = map (λ (j : Job). j.step) t

-- "a reading is above it or no number"
abbrev pub Heavy : Option Float → Float → Type 0
Heavy None load = ⊥
Heavy (Some highest) load = (load ≡ nan) ⊎ (lt highest load ≡ true)

-- every listed step upstream of step s is done
abbrev pub UpstreamDone : Given → List Job → ℕ → Type 0
UpstreamDone g t s = (u : Job) → u among t → u.step ∈ g.upstream s → u.state ≡ 2

-- "After a failed step nothing starts"
abbrev pub NoFailure : List Job → Type 0
NoFailure t = (u : Job) → u among t → u.state ≡ 3 → ⊥

-- "A step not yet started may start exactly when every listed step upstream is done, its pool has room (.. the empty pool no limit), the job limit allows it
-- and neither load nor a failure forbids it"
pub record MayStart (g : Given) (load : Float) (t : List Job) (j : Job) : Type 0 where
  pub new : j.state ≡ 0
  pub after : UpstreamDone g t j.step
  pub room : (j.pool ≡ 0) ⊎ (running_in j.pool t < g.depth j.pool)
  pub jobs : running_jobs t < g.limit
  pub calm : Heavy g.gate load → running_jobs t ≡ 0
  pub good : NoFailure t

-- "the lowest such step": by its number, wherever it stands in the table
pub record StartsLowest (g : Given) (load : Float) (t : List Job) (s : ℕ) : Type 0 where
  pub job : Job
  pub listed : job among t
  pub named : job.step ≡ s
  pub may : MayStart g load t job
  pub least : (u : Job) → u among t → MayStart g load t u → s ≤ u.step

-- ---- moves
-- what happens to a step: it starts; it finishes, well or not
pub data RunEvent : Type 0 where
  began : ℕ → RunEvent
  ended : ℕ → Bool → RunEvent

-- a start at any load reading, or a finish that is not refused
pub data Moves (g : Given) (t u : List Job) : RunEvent → Type 0 where
  starts : {s : ℕ} (load : Float) → next_start g load t ≡ some s → u ≡ after_start t s → Moves g t u (began s)
  finishes : {s : ℕ} (good : Bool) → finish_of t s ≡ (Ok tt) → u ≡ after_finish t s good → Moves g t u (ended s good)

-- the tables reached from a, with what happened, the newest first
pub data TableReached (g : Given) (a : List Job) : List RunEvent → List Job → Type 0 where
  fresh_table_law : {t : List Job} → t ≡ a → TableReached g a [] t
  further_on : {es : List RunEvent} {e : RunEvent} {t u : List Job} → TableReached g a es t → Moves g t u e → TableReached g a (e ∷ es) u

unfoldable pub starts_in : List RunEvent → List ℕ
starts_in [] = []
starts_in (began s ∷ es) = s ∷ starts_in es
starts_in (ended s good ∷ es) = starts_in es

unfoldable pub finishes_in : List RunEvent → List ℕ
finishes_in [] = []
finishes_in (began s ∷ es) = finishes_in es
finishes_in (ended s good ∷ es) = s ∷ finishes_in es

-- no finish was a failed one
unfoldable pub none_failed : List RunEvent → Bool
none_failed [] = true
none_failed (began s ∷ es) = none_failed es
none_failed (ended s good ∷ es) = good && none_failed es

-- A fresh table: no step has started; the list has each once and after those upstream, whichever steps are wanted.
pub record FreshTable (Want : ℕ → Type 0) (g : Given) (a : List Job) : Type 0 where
  pub waiting : (j : Job) → j among a → j.state ≡ 0
  pub order : IsOrder Want (By g.upstream) (steps_of a)

-- each step's pool is the empty one, or has a depth of at least 1
abbrev pub DeepPools : Given → List Job → Type 0
DeepPools g a = (j : Job) → j among a → (j.pool ≡ 0) ⊎ (1 ≤ g.depth j.pool)

-- the records that are done or failed
unfoldable pub ended_jobs : List Job → ℕ
unfolding count_jobs
ended_jobs t = count_jobs (λ j. ltb 1 j.state) t

-- What holds of every table t that is reached from a, whatever the load readings and whatever failed. Steps and pools stay as they are; a step that is not
-- among the starts waits, and each move counts 1.
pub record SoundTable (g : Given) (a : List Job) (es : List RunEvent) (t : List Job) : Type 0 where
  pub same : all_done t ≡ all_done a
  pub pools : (p : ℕ) → 0 < p → running_in p t ≤ g.depth p
  pub jobs : running_jobs t ≤ g.limit
  pub after : (j : Job) → j among t → (j.state ≡ 0 → ⊥) → UpstreamDone g t j.step
  pub states : (j : Job) → j among t → j.state ≤ 3
  pub started : (j : Job) → j among t → (j.step ∈ starts_in es) ↔ (j.state ≡ 0 → ⊥)
  pub finished : (j : Job) → j among t → (j.step ∈ finishes_in es) ↔ (2 ≤ j.state)
  pub starts_once : Once (starts_in es)
  pub finishes_once : Once (finishes_in es)
  pub counted : length es ≡ running_jobs t + 2 * ended_jobs t

-- Allowed starts and finishes can go on: a step runs, and its finish is allowed; or none runs, and a step starts at every load reading.
pub data CanGoOn (g : Given) (t : List Job) : Type 0 where
  by_finish : (s : ℕ) → finish_of t s ≡ (Ok tt) → CanGoOn g t
  by_start : ((load : Float) → (s : ℕ) × (next_start g load t ≡ some s)) → CanGoOn g t

-- "From a fresh table, with a job limit of at least 1 and no failure, whatever the load readings, allowed starts and finishes can always go on until all steps
-- are done, each once, and the end is the same table": every run is finite, and so is one that goes on as long as it can.
pub record RunsOut (g : Given) (a : List Job) : Type 0 where
  pub goes_on : {es : List RunEvent} {t : List Job} → TableReached g a es t → none_failed es ≡ true → (t ≡ all_done a) ⊎ CanGoOn g t
  pub finite : {es : List RunEvent} {t : List Job} → TableReached g a es t → length es ≤ 2 * length a
  pub same_end : {es : List RunEvent} {t : List Job} → TableReached g a es t → none_failed es ≡ true → ((e : RunEvent) (u : List Job) → Moves g t u e → ⊥) → t ≡ all_done a
  pub nothing_after : (e : RunEvent) (u : List Job) → Moves g (all_done a) u e → ⊥
  pub each : {es : List RunEvent} → TableReached g a es (all_done a) → (s : ℕ) → s ∈ steps_of a → (s ∈ starts_in es) × (s ∈ finishes_in es)
  pub ends : {es : List RunEvent} {t : List Job} → TableReached g a es t → none_failed es ≡ true → (more : List RunEvent) × TableReached g a more (all_done a) × (none_failed more ≡ true)
