-- With a job limit of at least 1 and no failure, starts and finishes go on until all steps are done, each once, and the end is the same table.
use Rattle.std.specs.Prelude.{Ok}
use Prim.Native.Nat.{ℕ, zero, suc, ◌+◌, ◌*◌, ◌≤◌}
use mathlib.Core.Bool.{true, false, ◌&&◌}
use mathlib.Core.List.{List, [], ◌∷◌, ◌++◌, map}
use mathlib.Core.Logic.{◌⊎◌, inl, inr}
use mathlib.Core.Path.{◌≡◌, refl, sym, ap, ◌∙◌, subst}
use native.Mathlib.Omega.{arith}
use borrow.Author.Tests.{eqb-true, eqb-false, eq-eqb}
use lib.Dec.{eqb}
use lib.Ieee.{Float, nan}
use lib.ListN.{length}
use Rattle.lists.specs.Members.{◌∈◌, any, each_last}
use Rattle.lists.specs.Tests.{split, and_true}
use Rattle.orders.specs.Order.{ComesAfter}
use Rattle.orders.specs.Greedy.{By}
use Rattle.run_rules.specs.declared.Job.{Job}
use Rattle.run_rules.specs.Runner.{Given, job_runs, job_done, turned, running_jobs, running_in, job_is, after_start, after_finish, finish_of, all_done}
use Rattle.run_rules.specs.Claims.{◌among◌, first, later, steps_of, UpstreamDone, NoFailure, MayStart, RunEvent, began, ended, Moves, starts, finishes, TableReached, further_on}
use Rattle.run_rules.specs.Claims.{starts_in, finishes_in, none_failed, FreshTable, DeepPools, SoundTable, CanGoOn, by_finish, by_start, RunsOut}
use Rattle.run_rules.proofs.Tables.{among_left, among_right, among_step, step_among, one_record_law, any_jobs, no_jobs, jobs_any, none_count}
use Rattle.run_rules.proofs.Moved.{same_steps}
use Rattle.run_rules.proofs.Starts.{some_start, start_lowest}
use Rattle.run_rules.proofs.Reaching.{finish_turns, once_now, reached_sound, reached_good, run_short}
use Rattle.run_rules.proofs.Turning.{job_among}

-- ---- the first record that is not done
pub record FirstUndone (t : List Job) : Type 0 where
  pub front : List Job
  pub job : Job
  pub back : List Job
  pub is : t ≡ front ++ job ∷ back
  pub done : (u : Job) → u among front → u.state ≡ 2
  pub undone : job.state ≡ 2 → ⊥

first_undone : (t : List Job) → ((u : Job) → u among t → u.state ≡ 2) ⊎ FirstUndone t
first_undone [] = inl (λ u h. elim h [ ])
first_undone (k ∷ t) =
    split (job_done k)
    (λ (e : job_done k ≡ true). elim (first_undone t) [
      | inl f ↦ inl (more (eqb-true k.state 2 e) f)
      | inr r ↦ inr (record {
        front = k ∷ r.front;
        job = r.job;
        back = r.back;
        is = ap (λ (l : List Job). k ∷ l) r.is;
        done = more (eqb-true k.state 2 e) r.done;
        undone = r.undone;
      })
    ])
    (λ (e : job_done k ≡ false).
    inr (record { front = []; job = k; back = t; is = refl; done = λ u h. elim h [ ]; undone = eqb-false k.state 2 e }))
  where
    more : {l : List Job} → k.state ≡ 2 → ((u : Job) → u among l → u.state ≡ 2) → (u : Job) → u among (k ∷ l) → u.state ≡ 2
    more e f u (first q) = ap (λ (j : Job). j.state) q ∙ e
    more e f u (later h) = f u h

-- a table that is all done
pub done_table : (t : List Job) → ((u : Job) → u among t → u.state ≡ 2) → t ≡ all_done t
unfolding all_done
done_table [] f = refl
done_table (k ∷ t) f = ap (λ (n : ℕ). turned n k ∷ t) (f k (first refl)) ∙ ap (λ (r : List Job). turned 2 k ∷ r) (done_table t (λ u h. f u (later h)))

-- ---- pools
same_pools : (t a : List Job) → all_done t ≡ all_done a → {j : Job} → j among t → (k : Job) × (k among a) × (k.pool ≡ j.pool)
unfolding all_done
same_pools t a e h = let (k, m, q) = back a (rw e at (forth h)) in (k, m, ap (λ (j : Job). j.pool) q)
  where
    forth : {j : Job} {t : List Job} → j among t → turned 2 j among map (turned 2) t
    forth (first q) = first (ap (turned 2) q)
    forth (later h) = later (forth h)

    back : (t : List Job) {x : Job} → x among map (turned 2) t → (k : Job) × (k among t) × (turned 2 k ≡ x)
    back [] h = elim h [ ]
    back (k ∷ t) (first q) = (k, first refl, sym q)
    back (k ∷ t) (later h) = let (m, a, e) = back t h in (m, later a, e)

-- ---- going on
pub running_finishes : (t : List Job) {j : Job} → j among t → j.state ≡ 1 → finish_of t j.step ≡ (Ok tt)
unfolding finish_of
running_finishes t {j} h e =
    rw (jobs_any (job_is j.step 1) t h (and_true (eqb j.step j.step) (eqb j.state 1) (eq-eqb j.step j.step refl) (eq-eqb j.state 1 e)))

module _ {Want : ℕ → Type 0} {g : Given} {a : List Job} (f : FreshTable Want g a) (deep : DeepPools g a) (jobs : 1 ≤ g.limit)
    {es : List RunEvent} {t : List Job} (k : SoundTable g a es t) (good : NoFailure t) where
  -- what is upstream of the first undone record stands in front of it
  front_done : (n : FirstUndone t) → UpstreamDone g t n.job.step
  front_done n u m w =
      let p : ComesAfter Want (By g.upstream) (steps_of n.front) n.job.step = earlier in
      let (x, h, e) = step_among n.front (p u.step w (f.order.lists.no_others u.step (rw (← same_steps t a k.same) (among_step m)))) in
      in_front_law x h e
    where
      in_front_law : (x : Job) → x among n.front → x.step ≡ u.step → u.state ≡ 2
      in_front_law x h e =
          let l : x among t = rw n.is (among_left (n.job ∷ n.back) h) in
          let q : x ≡ u = one_record_law t (once_now f k) l m e in
          sym (ap (λ (j : Job). j.state) q) ∙ n.done x h

      steps_append : (l r : List Job) → steps_of (l ++ r) ≡ steps_of l ++ steps_of r
      steps_append [] r = refl
      steps_append (x ∷ l) r = ap (λ (z : List ℕ). x.step ∷ z) (steps_append l r)

      earlier : ComesAfter Want (By g.upstream) (steps_of n.front) n.job.step
      earlier =
          each_last (ComesAfter Want (By g.upstream)) (steps_of n.front) (steps_of n.back) n.job.step
          (rw (← same_steps t a k.same, ap steps_of n.is, steps_append n.front (n.job ∷ n.back)) at f.order.after)

  -- where none runs, the first undone record may start
  undone_may : (n : FirstUndone t) → ((u : Job) → u among t → job_runs u ≡ false) → (load : Float) → MayStart g load t n.job
  unfolding running_jobs running_in
  undone_may n still load =
      let m : n.job among t = rw n.is (among_right n.front (first refl)) in
      let r : running_jobs t ≡ 0 = none_count job_runs t still in
      let (x, h, e) = same_pools t a k.same m in
      record {
        new = (let s = k.states n.job m in let b = n.undone in let c = good n.job m in let d = eqb-false n.job.state 1 (still n.job m) in zero_left n.job.state s d b c);
        after = front_done n;
        room = elim (deep x h) [
          | inl z ↦ inl (sym e ∙ z)
          | inr z ↦ inr (
              let c : running_in n.job.pool t ≡ 0 = none_count (λ j. job_runs j && eqb j.pool n.job.pool) t (λ u v. rw (still u v)) in
              let y : 1 ≤ g.depth n.job.pool = rw e at z in
              omega arith
              )
        ];
        jobs = omega arith;
        calm = λ _. r;
        good = good;
      }
    where
      zero_left : (n : ℕ) → n ≤ 3 → (n ≡ 1 → ⊥) → (n ≡ 2 → ⊥) → (n ≡ 3 → ⊥) → n ≡ 0
      zero_left n s d b c = omega arith

  -- all are done, or a start or a finish is possible
  pub goes_on : (t ≡ all_done a) ⊎ CanGoOn g t
  goes_on =
      split (any job_runs t)
      (λ (e : any job_runs t ≡ true). let (j, h, q) = any_jobs job_runs t e in inr (by_finish j.step (running_finishes t h (eqb-true j.state 1 q))))
      (λ (e : any job_runs t ≡ false). elim (first_undone t) [
        | inl d ↦ inl (done_table t d ∙ k.same)
        | inr n ↦ inr (by_start (λ load.
            some_start g load t n.job (rw n.is (among_right n.front (first refl))) (undone_may n (λ u h. no_jobs job_runs t e h) load)))
      ])

  -- a table from which nothing moves is the same one always
  pub same_end : ((e : RunEvent) (u : List Job) → Moves g t u e → ⊥) → t ≡ all_done a
  same_end stuck = elim goes_on [
    | inl e ↦ e
    | inr (by_finish s q) ↦ absurd (stuck (ended s true) (after_finish t s true) (finishes true q refl))
    | inr (by_start h) ↦ (let (s, q) = h nan in absurd (stuck (began s) (after_start t s) (starts nan q refl)))
  ]

-- ---- the end
done_among : (a : List Job) {j : Job} → j among all_done a → j.state ≡ 2
unfolding all_done
done_among [] h = elim h [ ]
done_among (k ∷ a) (first e) = ap (λ (j : Job). j.state) e
done_among (k ∷ a) (later h) = done_among a h

done_steps : (a : List Job) {s : ℕ} → s ∈ steps_of a → (j : Job) × (j among all_done a) × (j.step ≡ s)
unfolding all_done
done_steps a h = let (j, m, e) = step_among a h in (turned 2 j, go m, e)
  where
    go : {j : Job} {t : List Job} → j among t → turned 2 j among map (turned 2) t
    go (first q) = first (ap (turned 2) q)
    go (later h) = later (go h)

done_still : {g : Given} (a : List Job) (e : RunEvent) (u : List Job) → Moves g (all_done a) u e → ⊥
done_still {g} a e u (starts load q d) =
    let l = start_lowest g load (all_done a) q in
    let x = l.may.new in
    let y = done_among a l.listed in
    omega arith
done_still a e u (finishes good q d) =
    let h = finish_turns good q in
    let x = h.state in
    let y = done_among a (job_among h) in
    omega arith

module _ {Want : ℕ → Type 0} {g : Given} {a : List Job} (f : FreshTable Want g a) (deep : DeepPools g a) (jobs : 1 ≤ g.limit) where
  done_each : {es : List RunEvent} → TableReached g a es (all_done a) → (s : ℕ) → s ∈ steps_of a → (s ∈ starts_in es) × (s ∈ finishes_in es)
  done_each {es} r s h =
      let (j, m, e) = done_steps a h in
      let k = reached_sound f r in
      let d : j.state ≡ 2 = done_among a m in
      (rw e at ((k.started j m).1 (λ z. omega arith)), rw e at ((k.finished j m).1 (omega arith)))

  one_more : {es : List RunEvent} {t : List Job} → TableReached g a es t → none_failed es ≡ true → CanGoOn g t
      → (e : RunEvent) × (u : List Job) × TableReached g a (e ∷ es) u × (none_failed (e ∷ es) ≡ true)
  unfolding none_failed
  one_more {t = t} r q (by_finish s e) = (ended s true, after_finish t s true, further_on r (finishes true e refl), q)
  one_more {t = t} r q (by_start h) = let (s, e) = h nan in (began s, after_start t s, further_on r (starts nan e refl), q)

  -- as many more moves as the number says, or fewer
  to_the_end : (n : ℕ) {es : List RunEvent} {t : List Job} → 2 * length a ≤ length es + n → TableReached g a es t → none_failed es ≡ true
      → (more : List RunEvent) × TableReached g a more (all_done a) × (none_failed more ≡ true)
  to_the_end zero {es} {t} b r q = elim (goes_on f deep jobs (reached_sound f r) (reached_good f r q)) [
    | inl e ↦ (es, subst (λ (t : List Job). TableReached g a es t) e r, q)
    | inr c ↦ (let (e, u, m, _) = one_more r q c in let w = run_short f m in absurd (omega arith))
  ]
  to_the_end (suc n) {es} {t} b r q = elim (goes_on f deep jobs (reached_sound f r) (reached_good f r q)) [
    | inl e ↦ (es, subst (λ (t : List Job). TableReached g a es t) e r, q)
    | inr c ↦ (let (e, u, m, p) = one_more r q c in to_the_end n (omega arith) m p)
  ]

  pub runs_out : RunsOut g a
  runs_out = record {
    goes_on = λ r q. goes_on f deep jobs (reached_sound f r) (reached_good f r q);
    finite = λ r. run_short f r;
    same_end = λ r q. same_end f deep jobs (reached_sound f r) (reached_good f r q);
    nothing_after = done_still a;
    each = done_each;
    ends = λ r q. to_the_end (2 * length a) (omega arith) r q;
  }
