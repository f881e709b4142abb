-- The runner: when a listed step may start, which one the runner starts, and what a start and a finish make of the table (document 02, [5]).
use Rattle.std.specs.Prelude.{ℕ, suc, min, Bool, false, not, cond, ◌&&◌, ◌||◌, List, [], ◌∷◌, map, eqb, ltb, Float, Option as StdOption, Some, None, Result, Ok, Err}
use Rattle.std.proofs.Math.Option.{Option, none, some}
use Rattle.std.specs.Float.Ieee.{is_nan, lt}
use Rattle.lists.specs.Members.{has, all, any}
use Rattle.run_rules.specs.declared.Job.{Job}

-- What a run is given: the steps upstream of each step, the depth of each pool by its number, the job limit, the load gate. Pool 0 is the empty one.
pub record Given : Type 0 where
  pub upstream : ℕ → List ℕ
  pub depth : ℕ → ℕ
  pub limit : ℕ
  pub gate : StdOption Float

-- ---- a record's state
abbrev pub job_runs : Job → Bool
job_runs j = eqb j.state 1

abbrev pub job_done : Job → Bool
job_done j = eqb j.state 2

abbrev pub job_failed : Job → Bool
job_failed j = eqb j.state 3

abbrev pub turned : ℕ → Job → Job
turned state j = record { step = j.step; pool = j.pool; state = state }

unfoldable pub count_jobs : (Job → Bool) → List Job → ℕ
count_jobs p [] = 0
count_jobs p (j ∷ t) = let r = count_jobs p t in cond (p j) (suc r) r

unfoldable pub running_jobs : List Job → ℕ
unfolding count_jobs
running_jobs t = count_jobs job_runs t

unfoldable pub running_in : ℕ → List Job → ℕ
unfolding count_jobs
running_in p t = count_jobs (λ j. job_runs j && eqb j.pool p) t

-- ---- the five conditions, of a record j of the table t
-- "A step not yet started"
unfoldable pub not_started : Job → Bool
not_started j = eqb j.state 0

-- "every listed step upstream is done"
unfoldable pub upstream_done : Given → List Job → Job → Bool
unfolding all has
upstream_done g t j = all (λ u. job_done u || not (has u.step (g.upstream j.step))) t

-- "its pool has room (`console` has depth 1, the empty pool no limit)"
unfoldable pub pool_has_room : Given → List Job → Job → Bool
unfolding running_in
pool_has_room g t j = eqb j.pool 0 || ltb (running_in j.pool t) (g.depth j.pool)

-- "the job limit allows it"
unfoldable pub limit_allows : Given → List Job → Bool
unfolding running_jobs
limit_allows g t = ltb (running_jobs t) g.limit

-- "a reading is above it or no number"
unfoldable pub heavy_load : StdOption Float → Float → Bool
unfolding is_nan lt
heavy_load None load = false
heavy_load (Some highest) load = is_nan load || lt highest load

-- "neither load nor a failure forbids it": "a step starts only when none runs", "After a failed step nothing starts"
unfoldable pub load_forbids : Given → Float → List Job → Bool
unfolding heavy_load running_jobs
load_forbids g load t = heavy_load g.gate load && not (eqb (running_jobs t) 0)

unfoldable pub failure_forbids : List Job → Bool
unfolding any
failure_forbids t = any job_failed t

unfoldable pub nothing_forbids : Given → Float → List Job → Bool
unfolding load_forbids failure_forbids
nothing_forbids g load t = not (load_forbids g load t || failure_forbids t)

-- "A step not yet started may start exactly when .."
unfoldable pub may_start : Given → Float → List Job → Job → Bool
unfolding not_started upstream_done pool_has_room limit_allows nothing_forbids
may_start g load t j = not_started j && (upstream_done g t j && (pool_has_room g t j && (limit_allows g t && nothing_forbids g load t)))

-- ---- the start
unfoldable pub lower_of : ℕ → Option ℕ → Option ℕ
lower_of s none = some s
lower_of s (some r) = some (min s r)

unfoldable pub lowest_step : (Job → Bool) → List Job → Option ℕ
unfolding lower_of
lowest_step p [] = none
lowest_step p (j ∷ t) = let r = lowest_step p t in cond (p j) (lower_of j.step r) r

-- "the runner starts and names the lowest such step, none only if there is none"
unfoldable pub next_start : Given → Float → List Job → Option ℕ
unfolding lowest_step may_start
next_start g load t = lowest_step (may_start g load t) t

-- ---- what a start and a finish make of the table
-- step s, in state a
abbrev pub job_is : ℕ → ℕ → Job → Bool
job_is s a j = eqb j.step s && eqb j.state a

-- the first record of step s that is in state a is in state b
unfoldable pub moved : ℕ → ℕ → ℕ → List Job → List Job
moved s a b [] = []
moved s a b (j ∷ t) = let r = moved s a b t in cond (job_is s a j) (turned b j ∷ t) (j ∷ r)

unfoldable pub after_start : List Job → ℕ → List Job
unfolding moved
after_start t s = moved s 0 1 t

-- a good finish, or a failed one
unfoldable pub after_finish : List Job → ℕ → Bool → List Job
unfolding moved
after_finish t s good = moved s 1 (cond good 2 3) t

-- "A finish for a step that isn't running or not in the table is refusal 27 at it and changes nothing."
unfoldable pub finish_of : List Job → ℕ → Result Unit ℕ
unfolding any
finish_of t s = cond (any (job_is s 1) t) (Ok tt) (Err s)

-- the number and the place of an answer
unfoldable pub finish_says : Result Unit ℕ → ℕ × ℕ
finish_says (Ok tt) = (0, 0)
finish_says (Err s) = (27, s)

-- ---- the first table, and the last
abbrev pub waiting_job : ℕ → ℕ → Job
waiting_job step pool = record { step = step; pool = pool; state = 0 }

unfoldable pub all_done : List Job → List Job
all_done t = map (turned 2) t
