-- What a finish frees, what a failure stops, and what a refused finish leaves.
use Rattle.std.specs.Prelude.{Ok}
use Prim.Native.Nat.{ℕ, ◌+◌, ◌≤◌}
use mathlib.Core.Bool.{Bool, true, false, cond, ◌&&◌}
use mathlib.Core.List.{List}
use mathlib.Core.Logic.{◌↔◌}
use mathlib.Core.Option.{none}
use mathlib.Core.Path.{◌≡◌, refl}
use native.Mathlib.Omega.{arith}
use borrow.Author.Tests.{eqb-true, eq-eqb, ne_eqb}
use lib.Dec.{eqb}
use lib.Ieee.{Float}
use Rattle.lists.specs.Members.{any}
use Rattle.lists.specs.Tests.{split, and_left, and_right}
use Rattle.run_rules.specs.declared.Job.{Job}
use Rattle.run_rules.specs.Runner.{Given, job_runs, running_jobs, running_in, next_start, job_is, after_finish, finish_of, finish_says}
use Rattle.run_rules.specs.Claims.{◌among◌, RunEvent, Moves, starts, finishes}
use Rattle.run_rules.proofs.Tables.{any_jobs, jobs_none, one}
use Rattle.run_rules.proofs.Moved.{Turns, moved_none}
use Rattle.run_rules.proofs.Starts.{start_lowest, no_start}
use Rattle.run_rules.proofs.Turning.{job_among, stays_turned, count_turned}
use Rattle.run_rules.proofs.Reaching.{start_turns, finish_turns, noted_runs}
use Rattle.run_rules.proofs.Progress.{running_finishes}

-- "After a failed step nothing starts"
pub failed_stops : (g : Given) (load : Float) (t : List Job) {u : Job} → u among t → u.state ≡ 3 → next_start g load t ≡ none
failed_stops g load t {u} h e = no_start g load t (λ j m s. s.good u h e)

-- "running ones may finish", whatever failed
pub running_may_finish : (t : List Job) (s : ℕ) → (finish_of t s ≡ (Ok tt)) ↔ ((j : Job) × (j among t) × (j.step ≡ s) × (j.state ≡ 1))
running_may_finish t s = (to, back)
  where
    to : finish_of t s ≡ (Ok tt) → (j : Job) × (j among t) × (j.step ≡ s) × (j.state ≡ 1)
    to e =
        let (j, h, q) = any_jobs (job_is s 1) t (noted_runs t s e) in
        (j, h, eqb-true j.step s (and_left (eqb j.step s) (eqb j.state 1) q), eqb-true j.state 1 (and_right (eqb j.step s) (eqb j.state 1) q))

    back : ((j : Job) × (j among t) × (j.step ≡ s) × (j.state ≡ 1)) → finish_of t s ≡ (Ok tt)
    back (j, h, e, q) = rw e at (running_finishes t h q)

-- A finish, good or failed, frees the job and its place in its pool.
pub record Frees (t u : List Job) (p : ℕ) : Type 0 where
  pub jobs : running_jobs u + 1 ≡ running_jobs t
  pub pool : running_in p u + 1 ≡ running_in p t

turned_frees : {s b : ℕ} {t u : List Job} (h : Turns s 1 b t u) → 2 ≤ b → Frees t u h.job.pool
unfolding running_jobs running_in
turned_frees {b = b} {t = t} {u = u} h lo =
    let p : ℕ = h.job.pool in
    let r : running_jobs u + 1 ≡ running_jobs t + 0 = rw (h.state, ne_eqb b 1 (λ e. omega arith)) at (count_turned h job_runs) in
    let c : running_in p u + one (eqb p p) ≡ running_in p t + 0
    = rw (h.state, ne_eqb b 1 (λ e. omega arith)) at (count_turned h (λ j. job_runs j && eqb j.pool p)) in
    record { jobs = omega arith; pool = omega (arith, rw (eq-eqb p p refl) at c) }

pub finish_frees : {t : List Job} {s : ℕ} (good : Bool) → finish_of t s ≡ (Ok tt)
    → (j : Job) × (j among t) × (j.step ≡ s) × (j.state ≡ 1) × Frees t (after_finish t s good) j.pool
finish_frees true e = let h = finish_turns true e in (h.job, job_among h, h.step, h.state, turned_frees h (omega arith))
finish_frees false e = let h = finish_turns false e in (h.job, job_among h, h.step, h.state, turned_frees h (omega arith))

-- What has ended stays as it ended: a failed step is never done.
pub ended_stays : {g : Given} {t u : List Job} {e : RunEvent} → Moves g t u e → {j : Job} → j among t → 2 ≤ j.state → j among u
ended_stays {g} {t} (starts load q d) {j} h b = rw d (stays_turned (start_turns (start_lowest g load t q)) h (λ z. omega arith))
ended_stays (finishes good q d) h b = rw d (stays_turned (finish_turns good q) h (λ z. omega arith))

-- "A finish for a step that isn't running or not in the table is refusal 27 at it and changes nothing."
pub refused_finish : (t : List Job) (s : ℕ) → ((j : Job) → j among t → j.step ≡ s → j.state ≡ 1 → ⊥)
    → (finish_says (finish_of t s) ≡ (27, s)) × ((good : Bool) → after_finish t s good ≡ t)
unfolding finish_of finish_says after_finish
refused_finish t s f =
    let n : any (job_is s 1) t ≡ false = jobs_none (job_is s 1) t none_runs in
    (rw n, λ good. moved_none s 1 (cond good 2 3) t n)
  where
    none_runs : (j : Job) → j among t → job_is s 1 j ≡ false
    none_runs j h =
        split (job_is s 1 j)
        (λ (e : job_is s 1 j ≡ true). absurd (f j h
        (eqb-true j.step s (and_left (eqb j.step s) (eqb j.state 1) e)) (eqb-true j.state 1 (and_right (eqb j.step s) (eqb j.state 1) e))))
        (λ (e : job_is s 1 j ≡ false). e)
