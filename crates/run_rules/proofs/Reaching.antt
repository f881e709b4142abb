-- What holds along any sequence of moves from a fresh table: pools and jobs within their bounds, no step before those upstream, each started and finished once.
use Rattle.std.specs.Prelude.{Ok, Err}
use Prim.Native.Nat.{ℕ, ◌+◌, ◌*◌, ◌≤◌, ◌<◌}
use mathlib.Core.Bool.{Bool, true, false, cond, ◌&&◌}
use mathlib.Core.List.{List, [], ◌∷◌}
use mathlib.Core.Logic.{inl, inr}
use mathlib.Core.Path.{◌≡◌, refl, sym, ap, ◌∙◌, subst}
use native.Mathlib.Omega.{arith}
use borrow.Author.Tests.{eqb-true, eq-eqb, ne_eqb, lt-ltb, le-ltb}
use lib.Dec.{eqb, ltb}
use lib.Ieee.{Float}
use lib.ListN.{length}
use Rattle.lists.specs.Members.{◌∉◌, Once, any, each_nil, once_cons, not_in_nil}
use Rattle.lists.specs.Tests.{split, differ, and_true}
use Rattle.run_rules.specs.declared.Job.{Job}
use Rattle.run_rules.specs.Runner.{Given, job_runs, count_jobs, running_jobs, running_in, job_is, after_start, after_finish, finish_of}
use Rattle.run_rules.specs.Claims.{◌among◌, steps_of, UpstreamDone, MayStart, StartsLowest, RunEvent, began, ended, Moves, starts, finishes, TableReached, fresh_table_law, further_on}
use Rattle.run_rules.specs.Claims.{NoFailure, starts_in, finishes_in, none_failed, ended_jobs, FreshTable, SoundTable}
use Rattle.run_rules.proofs.Tables.{one_record_law, jobs_any, one, none_count, count_cons, count_nil}
use Rattle.run_rules.proofs.Moved.{Turns, moved_turns, turns_same, same_steps, same_length}
use Rattle.run_rules.proofs.Starts.{start_lowest}
use Rattle.run_rules.proofs.Turning.{job_among, among_turned, other_among, count_turned, done_turned, states_turned, told_more, told_same}

-- ---- each move turns one record
pub start_turns : {g : Given} {load : Float} {t : List Job} {s : ℕ} → StartsLowest g load t s → Turns s 0 1 t (after_start t s)
unfolding after_start
start_turns {t} {s} l =
    moved_turns s 0 1 t
    (jobs_any (job_is s 0) t l.listed (and_true (eqb l.job.step s) (eqb l.job.state 0) (eq-eqb l.job.step s l.named) (eq-eqb l.job.state 0 l.may.new)))

pub noted_runs : (t : List Job) (s : ℕ) → finish_of t s ≡ (Ok tt) → any (job_is s 1) t ≡ true
unfolding finish_of
noted_runs t s e =
    split (any (job_is s 1) t) (λ (a : any (job_is s 1) t ≡ true). a)
    (λ (b : any (job_is s 1) t ≡ false). let d : Err s ≡ (Ok tt) = rw b at e in cc)

pub finish_turns : {t : List Job} {s : ℕ} (good : Bool) → finish_of t s ≡ (Ok tt) → Turns s 1 (cond good 2 3) t (after_finish t s good)
unfolding after_finish
finish_turns {t} {s} good e = moved_turns s 1 (cond good 2 3) t (noted_runs t s e)

-- a record runs, or has ended, or neither
run_or_ended : (t : List Job) → count_jobs job_runs t + count_jobs (λ j. ltb 1 j.state) t ≤ length t
run_or_ended [] = let r = count_nil job_runs in let d = count_nil (λ j. ltb 1 j.state) in omega arith
run_or_ended (k ∷ t) =
    let r = count_cons job_runs k t in
    let d = count_cons (λ j. ltb 1 j.state) k t in
    let h = run_or_ended t in
    split (job_runs k)
    (λ (e : job_runs k ≡ true). omega (arith, rw e at r, rw (le-ltb 1 k.state (omega (arith, eqb-true k.state 1 e))) at d))
    (λ (e : job_runs k ≡ false). split (ltb 1 k.state) (λ (b : ltb 1 k.state ≡ true). omega (arith, rw e at r, rw b at d)) (λ (b : ltb 1 k.state ≡ false). omega (arith, rw e at r, rw b at d)))

-- ---- the first table
nothing_twice : Once []
nothing_twice = each_nil (λ earlier x. x ∉ earlier)

module _ {Want : ℕ → Type 0} {g : Given} {a : List Job} (f : FreshTable Want g a) where
  quiet : (p : Job → Bool) → ((j : Job) → j.state ≡ 0 → p j ≡ false) → count_jobs p a ≡ 0
  quiet p q = none_count p a (λ j m. q j (f.waiting j m))

  pub sound_fresh : SoundTable g a [] a
  unfolding running_jobs running_in ended_jobs starts_in finishes_in
  sound_fresh =
      let r = quiet job_runs (λ j e. rw e) in
      let d = quiet (λ j. ltb 1 j.state) (λ j e. rw e) in
      record {
        same = refl;
        pools = λ p h. (let c = quiet (λ j. job_runs j && eqb j.pool p) (λ j e. rw e) in omega arith);
        jobs = omega arith;
        after = λ j m n. absurd (n (f.waiting j m));
        states = λ j m. (let e = f.waiting j m in omega arith);
        started = λ j m. (λ w. absurd (not_in_nil w), λ n. absurd (n (f.waiting j m)));
        finished = λ j m. (let e = f.waiting j m in (λ w. absurd (not_in_nil w), λ n. absurd (omega arith)));
        starts_once = nothing_twice;
        finishes_once = nothing_twice;
        counted = omega arith;
      }

-- ---- the next table
module _ {Want : ℕ → Type 0} {g : Given} {a : List Job} (f : FreshTable Want g a) {es : List RunEvent} {t : List Job} (k : SoundTable g a es t) where
  pub once_now : Once (steps_of t)
  once_now = rw (same_steps t a k.same) f.order.lists.once

  start_sound : {load : Float} {s : ℕ} {u : List Job} (h : Turns s 0 1 t u) → MayStart g load t h.job → SoundTable g a (began s ∷ es) u
  unfolding running_jobs running_in ended_jobs starts_in finishes_in
  start_sound {s = s} {u = u} h m =
      let r : running_jobs u + 0 ≡ running_jobs t + 1 = rw h.state at (count_turned h job_runs) in
      let d : ended_jobs u + 0 ≡ ended_jobs t + 0 = rw h.state at (count_turned h (λ j. ltb 1 j.state)) in
      record {
        same = turns_same h ∙ k.same;
        pools = pools;
        jobs = omega (arith, m.jobs);
        after = λ j w n. done_turned h (λ (e : 0 ≡ 2). omega arith) g j.step (upstream j w n);
        states = states_turned h (λ n. n ≤ 3) k.states (omega arith);
        started = told_more h (λ n. n ≡ 0 → ⊥) k.started once_now (λ (e : 1 ≡ 0). omega arith);
        finished = told_same h (λ n. 2 ≤ n) k.finished (λ z. absurd (omega arith)) (λ z. absurd (omega arith));
        starts_once = once_cons s (starts_in es) (λ w. (k.started h.job (job_among h)).0 (rw h.step w) h.state) k.starts_once;
        finishes_once = k.finishes_once;
        counted = omega (arith, k.counted);
      }
    where
      pools : (p : ℕ) → 0 < p → running_in p u ≤ g.depth p
      pools p z =
          let c : running_in p u + 0 ≡ running_in p t + one (eqb h.job.pool p) = rw h.state at (count_turned h (λ j. job_runs j && eqb j.pool p)) in
          split (eqb h.job.pool p)
          (λ (e : eqb h.job.pool p ≡ true).
          let q : h.job.pool ≡ p = eqb-true h.job.pool p e in
          elim m.room [
            | inl o ↦ absurd (omega arith)
            | inr l ↦ (let v : running_in p t < g.depth p = rw q at l in omega (arith, rw e at c))
          ])
          (λ (e : eqb h.job.pool p ≡ false). let v = k.pools p z in omega (arith, rw e at c))

      upstream : (j : Job) → j among u → (j.state ≡ 0 → ⊥) → UpstreamDone g t j.step
      upstream j w n = elim (among_turned h w) [
        | inl e ↦ rw (ap (λ (j : Job). j.step) e) m.after
        | inr o ↦ k.after j (other_among h o) n
      ]

  finish_sound : (good : Bool) {s b : ℕ} {u : List Job} → 2 ≤ b → b ≤ 3 → Turns s 1 b t u → SoundTable g a (ended s good ∷ es) u
  unfolding running_jobs running_in ended_jobs starts_in finishes_in
  finish_sound good {s} {b} {u} lo hi h =
      let r : running_jobs u + 1 ≡ running_jobs t + 0 = rw (h.state, ne_eqb b 1 (λ e. omega arith)) at (count_turned h job_runs) in
      let d : ended_jobs u + 0 ≡ ended_jobs t + 1 = rw (h.state, lt-ltb 1 b lo) at (count_turned h (λ j. ltb 1 j.state)) in
      record {
        same = turns_same h ∙ k.same;
        pools = pools;
        jobs = omega (arith, k.jobs);
        after = λ j w n. done_turned h (λ (e : 1 ≡ 2). omega arith) g j.step (upstream j w n);
        states = states_turned h (λ n. n ≤ 3) k.states hi;
        started = told_same h (λ n. n ≡ 0 → ⊥) k.started (λ _ (e : b ≡ 0). omega arith) (λ _ (e : 1 ≡ 0). omega arith);
        finished = told_more h (λ n. 2 ≤ n) k.finished once_now lo;
        starts_once = k.starts_once;
        finishes_once = once_cons s (finishes_in es) (λ w. let z = (k.finished h.job (job_among h)).0 (rw h.step w) in let e = h.state in omega arith) k.finishes_once;
        counted = omega (arith, k.counted);
      }
    where
      pools : (p : ℕ) → 0 < p → running_in p u ≤ g.depth p
      pools p z =
          let c : running_in p u + one (eqb h.job.pool p) ≡ running_in p t + 0
          = rw (h.state, ne_eqb b 1 (λ e. omega arith)) at (count_turned h (λ j. job_runs j && eqb j.pool p)) in
          let v = k.pools p z in
          omega arith

      upstream : (j : Job) → j among u → (j.state ≡ 0 → ⊥) → UpstreamDone g t j.step
      upstream j w n = elim (among_turned h w) [
        | inl e ↦ rw (ap (λ (j : Job). j.step) e) (k.after h.job (job_among h) (λ z. let y = h.state in omega arith))
        | inr o ↦ k.after j (other_among h o) n
      ]

  pub move_sound : {e : RunEvent} {u : List Job} → Moves g t u e → SoundTable g a (e ∷ es) u
  move_sound (starts {s = s} load q e) =
      let l : StartsLowest g load t s = start_lowest g load t q in
      let h : Turns s 0 1 t (after_start t s) = start_turns l in
      rw e (start_sound h (subst (MayStart g load t) (one_record_law t once_now l.listed (job_among h) (l.named ∙ sym h.step)) l.may))
  move_sound (finishes {s = s} true q e) = rw e (finish_sound true (omega arith) (omega arith) (finish_turns true q))
  move_sound (finishes {s = s} false q e) = rw e (finish_sound false (omega arith) (omega arith) (finish_turns false q))

-- ---- all tables that are reached
module _ {Want : ℕ → Type 0} {g : Given} {a : List Job} (f : FreshTable Want g a) where
  pub reached_sound : {es : List RunEvent} {t : List Job} → TableReached g a es t → SoundTable g a es t
  reached_sound (fresh_table_law e) = rw e (sound_fresh f)
  reached_sound (further_on r m) = move_sound f (reached_sound r) m

  -- where no finish was a failed one, no record is
  pub reached_good : {es : List RunEvent} {t : List Job} → TableReached g a es t → none_failed es ≡ true → NoFailure t
  unfolding none_failed
  reached_good (fresh_table_law e) n = λ u m q. let w : u.state ≡ 0 = f.waiting u (rw e at m) in omega arith
  reached_good (further_on {t = t} r (starts {s = s} load q e)) n =
      rw e (states_turned (start_turns (start_lowest g load t q)) (λ n. n ≡ 3 → ⊥) (reached_good r n) (λ (z : 1 ≡ 3). omega arith))
  reached_good (further_on r (finishes true q e)) n =
      rw e (states_turned (finish_turns true q) (λ n. n ≡ 3 → ⊥) (reached_good r n) (λ (z : 2 ≡ 3). omega arith))
  reached_good (further_on r (finishes false q e)) n = differ n refl

  -- every run is finite
  pub run_short : {es : List RunEvent} {t : List Job} → TableReached g a es t → length es ≤ 2 * length a
  unfolding running_jobs ended_jobs
  run_short {t = t} r =
      let k = reached_sound r in
      let c = k.counted in
      let b = run_or_ended t in
      let e : length t ≡ length a = same_length t a k.same in
      omega arith
