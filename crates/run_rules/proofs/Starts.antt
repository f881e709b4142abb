-- A step may start exactly when the five conditions hold; the runner starts the lowest such step, and none only if there is none.
use Rattle.std.specs.Prelude.{Option as StdOption, Some, None}
use Prim.Native.Nat.{ℕ, ◌≤◌, min}
use native.Mathlib.Nat.{le_trans}
use native.Mathlib.Decide.{dec_le}
use native.Mathlib.Omega.{arith}
use mathlib.Core.Bool.{Bool, true, false, not, ◌&&◌, ◌||◌, false≢true}
use mathlib.Core.List.{List, [], ◌∷◌}
use mathlib.Core.Logic.{inl, inr}
use mathlib.Core.Option.{Option, none, some}
use mathlib.Core.Path.{◌≡◌, refl, ap, subst}
use borrow.Author.Tests.{eqb-true, eqb-false, eq-eqb, ne_eqb, ltb-true, lt-ltb, not-true, not-false}
use lib.Dec.{eqb, ltb}
use lib.Ieee.{Float, nan, inf, fin, is_nan, lt}
use Rattle.lists.specs.Members.{has, in_has, not_in_has, dec_in}
use Rattle.lists.specs.Tests.{split, differ, and_true, and_left, and_right, and_false, or_left, or_right, or_true, or_false}
use Rattle.run_rules.specs.declared.Job.{Job}
use Rattle.run_rules.specs.Runner.{Given, job_done, job_failed, running_jobs, running_in, not_started, upstream_done, pool_has_room, limit_allows}
use Rattle.run_rules.specs.Runner.{heavy_load, load_forbids, failure_forbids, nothing_forbids, may_start, lower_of, lowest_step, next_start}
use Rattle.run_rules.specs.Claims.{◌among◌, first, later, Heavy, UpstreamDone, NoFailure, MayStart, StartsLowest}
use Rattle.run_rules.proofs.Tables.{not_among_nil, all_jobs, jobs_all, no_jobs, jobs_none}

-- ---- the gate
nan_only : (x : Float) → is_nan x ≡ true → x ≡ nan
unfolding is_nan
nan_only nan e = refl
nan_only (inf s) e = absurd (false≢true e)
nan_only (fin s m k) e = absurd (false≢true e)

pub heavy_is : (gate : StdOption Float) (load : Float) → heavy_load gate load ≡ true → Heavy gate load
unfolding heavy_load
heavy_is None load e = absurd (false≢true e)
heavy_is (Some highest) load e = elim (or_true (is_nan load) (lt highest load) e) [ inl a ↦ inl (nan_only load a) | inr b ↦ inr b ]

pub is_heavy : (gate : StdOption Float) (load : Float) → Heavy gate load → heavy_load gate load ≡ true
unfolding heavy_load is_nan
is_heavy None load h = absurd h
is_heavy (Some highest) load (inl e) = rw e
is_heavy (Some highest) load (inr e) = split (is_nan load) (λ (a : is_nan load ≡ true). rw a) (λ (a : is_nan load ≡ false). rw (a, e))

-- ---- each condition, both ways
module _ (g : Given) (load : Float) (t : List Job) where
  pub upstream_is : (j : Job) → upstream_done g t j ≡ true → UpstreamDone g t j.step
  unfolding upstream_done
  upstream_is j e u h m =
      elim (or_true (job_done u) (not (has u.step (g.upstream j.step))) (all_jobs (λ u. job_done u || not (has u.step (g.upstream j.step))) t e h)) [
        | inl a ↦ eqb-true u.state 2 a
        | inr b ↦ differ (in_has m) (not-true (has u.step (g.upstream j.step)) b)
      ]

  pub is_upstream : (j : Job) → UpstreamDone g t j.step → upstream_done g t j ≡ true
  unfolding upstream_done
  is_upstream j f =
      jobs_all (λ u. job_done u || not (has u.step (g.upstream j.step))) t
      (λ u h. elim (dec_in u.step (g.upstream j.step)) [
        | yes m ↦ rw (f u h m)
        | no m ↦ split (job_done u) (λ (a : job_done u ≡ true). rw a) (λ (a : job_done u ≡ false). rw (a, not_in_has m))
      ])

  pub calm_is : nothing_forbids g load t ≡ true → Heavy g.gate load → running_jobs t ≡ 0
  unfolding nothing_forbids load_forbids
  calm_is e h =
      let f = or_left (load_forbids g load t) (failure_forbids t) (not-true (load_forbids g load t || failure_forbids t) e) in
      elim (and_false (heavy_load g.gate load) (not (eqb (running_jobs t) 0)) f) [
        | inl a ↦ differ (is_heavy g.gate load h) a
        | inr b ↦ eqb-true (running_jobs t) 0 (not-false (eqb (running_jobs t) 0) b)
      ]

  pub good_is : nothing_forbids g load t ≡ true → NoFailure t
  unfolding nothing_forbids failure_forbids
  good_is e u h =
      eqb-false u.state 3
      (no_jobs job_failed t (or_right (load_forbids g load t) (failure_forbids t) (not-true (load_forbids g load t || failure_forbids t) e)) h)

  pub is_allowed : (Heavy g.gate load → running_jobs t ≡ 0) → NoFailure t → nothing_forbids g load t ≡ true
  unfolding nothing_forbids load_forbids failure_forbids
  is_allowed f n =
      let b : failure_forbids t ≡ false = jobs_none job_failed t (λ u h. ne_eqb u.state 3 (n u h)) in
      let a : load_forbids g load t ≡ false = split (heavy_load g.gate load)
      (λ (e : heavy_load g.gate load ≡ true). rw (e, f (heavy_is g.gate load e)))
      (λ (e : heavy_load g.gate load ≡ false). rw e) in
      ap not (or_false (load_forbids g load t) (failure_forbids t) a b)

  -- "A step not yet started may start exactly when .."
  pub may_start_law : (j : Job) → may_start g load t j ≡ true → MayStart g load t j
  unfolding may_start not_started pool_has_room limit_allows
  may_start_law j e =
      let a = and_right (not_started j) (upstream_done g t j && (pool_has_room g t j && (limit_allows g t && nothing_forbids g load t))) e in
      let b = and_right (upstream_done g t j) (pool_has_room g t j && (limit_allows g t && nothing_forbids g load t)) a in
      let c = and_right (pool_has_room g t j) (limit_allows g t && nothing_forbids g load t) b in
      let d = and_right (limit_allows g t) (nothing_forbids g load t) c in
      record {
        new = eqb-true j.state 0 (and_left (not_started j) (upstream_done g t j && (pool_has_room g t j && (limit_allows g t && nothing_forbids g load t))) e);
        after = upstream_is j (and_left (upstream_done g t j) (pool_has_room g t j && (limit_allows g t && nothing_forbids g load t)) a);
        room = elim (or_true (eqb j.pool 0) (ltb (running_in j.pool t) (g.depth j.pool)) (and_left (pool_has_room g t j) (limit_allows g t && nothing_forbids g load t) b)) [
          | inl p ↦ inl (eqb-true j.pool 0 p)
          | inr q ↦ inr (ltb-true (running_in j.pool t) (g.depth j.pool) q)
        ];
        jobs = ltb-true (running_jobs t) g.limit (and_left (limit_allows g t) (nothing_forbids g load t) c);
        calm = calm_is d;
        good = good_is d;
      }

  pub start_may : (j : Job) → MayStart g load t j → may_start g load t j ≡ true
  unfolding may_start not_started pool_has_room limit_allows
  start_may j m =
      let p : pool_has_room g t j ≡ true = elim m.room [
        | inl e ↦ rw e
        | inr l ↦ split (eqb j.pool 0) (λ (e : eqb j.pool 0 ≡ true). rw e) (λ (e : eqb j.pool 0 ≡ false). rw (e, lt-ltb (running_in j.pool t) (g.depth j.pool) l))
      ] in
      and_true (not_started j) (upstream_done g t j && (pool_has_room g t j && (limit_allows g t && nothing_forbids g load t)))
      (eq-eqb j.state 0 m.new)
      (and_true (upstream_done g t j) (pool_has_room g t j && (limit_allows g t && nothing_forbids g load t)) (is_upstream j m.after)
      (and_true (pool_has_room g t j) (limit_allows g t && nothing_forbids g load t) p
      (and_true (limit_allows g t) (nothing_forbids g load t) (lt-ltb (running_jobs t) g.limit m.jobs) (is_allowed m.calm m.good))))

-- ---- the lowest step that a test holds of
record LowIn (p : Job → Bool) (t : List Job) (s : ℕ) : Type 0 where
  job : Job
  listed : job among t
  named : job.step ≡ s
  holds : p job ≡ true
  least : (u : Job) → u among t → p u ≡ true → s ≤ u.step

abbrev Low : (Job → Bool) → List Job → Option ℕ → Type 0
Low p t none = (u : Job) → u among t → p u ≡ false
Low p t (some s) = LowIn p t s

low_more : (p : Job → Bool) (k : Job) (t : List Job) (o : Option ℕ) → Low p t o → p k ≡ true → Low p (k ∷ t) (lower_of k.step o)
unfolding lower_of
low_more p k t none f e = record {
  job = k;
  listed = first refl;
  named = refl;
  holds = e;
  least = λ u h q. among_cons u h q;
}
  where
    among_cons : (u : Job) → u among (k ∷ t) → p u ≡ true → k.step ≤ u.step
    among_cons u (first d) q = rw d (omega arith)
    among_cons u (later h) q = differ q (f u h)
low_more p k t (some s) f e = elim (dec_le k.step s) [
  | yes h ↦ rw (min_left h) (record { job = k; listed = first refl; named = refl; holds = e; least = λ u m q. below_first h u m q })
  | no h ↦ rw (min_right h) (record { job = f.job; listed = later f.listed; named = f.named; holds = f.holds; least = λ u m q. below_rest h u m q })
]
  where
    min_left : k.step ≤ s → min k.step s ≡ k.step
    min_left h = omega arith

    min_right : (k.step ≤ s → ⊥) → min k.step s ≡ s
    min_right h = omega arith

    below_first : k.step ≤ s → (u : Job) → u among (k ∷ t) → p u ≡ true → k.step ≤ u.step
    below_first h u (first d) q = rw d (omega arith)
    below_first h u (later m) q = le_trans h (f.least u m q)

    below_rest : (k.step ≤ s → ⊥) → (u : Job) → u among (k ∷ t) → p u ≡ true → s ≤ u.step
    below_rest h u (first d) q = rw d (omega arith)
    below_rest h u (later m) q = f.least u m q

low_skip : (p : Job → Bool) (k : Job) (t : List Job) (o : Option ℕ) → Low p t o → p k ≡ false → Low p (k ∷ t) o
low_skip p k t none f e = skips
  where
    skips : (u : Job) → u among (k ∷ t) → p u ≡ false
    skips u (first d) = rw d e
    skips u (later h) = f u h
low_skip p k t (some s) f e = record { job = f.job; listed = later f.listed; named = f.named; holds = f.holds; least = skip }
  where
    skip : (u : Job) → u among (k ∷ t) → p u ≡ true → s ≤ u.step
    skip u (first d) q = differ (rw d at q) e
    skip u (later h) q = f.least u h q

low : (p : Job → Bool) (t : List Job) → Low p t (lowest_step p t)
unfolding lowest_step
low p [] = λ u h. absurd (not_among_nil h)
low p (k ∷ t) =
    split (p k)
    (λ (e : p k ≡ true). rw (e, lowest_step) (low_more p k t (lowest_step p t) (low p t) e))
    (λ (e : p k ≡ false). rw (e, lowest_step) (low_skip p k t (lowest_step p t) (low p t) e))

-- ---- the start
module _ (g : Given) (load : Float) (t : List Job) where
  -- "the runner starts and names the lowest such step"
  pub start_lowest : {s : ℕ} → next_start g load t ≡ some s → StartsLowest g load t s
  unfolding next_start
  start_lowest {s} e =
      let l : LowIn (may_start g load t) t s = subst (Low (may_start g load t) t) e (low (may_start g load t) t) in
      record {
        job = l.job;
        listed = l.listed;
        named = l.named;
        may = may_start_law g load t l.job l.holds;
        least = λ u h m. l.least u h (start_may g load t u m);
      }

  -- "none only if there is none"
  pub start_none : next_start g load t ≡ none → (u : Job) → u among t → MayStart g load t u → ⊥
  unfolding next_start
  start_none e u h m =
      let f : Low (may_start g load t) t none = subst (Low (may_start g load t) t) e (low (may_start g load t) t) in
      differ (start_may g load t u m) (f u h)

  pub some_start : (u : Job) → u among t → MayStart g load t u → (s : ℕ) × (next_start g load t ≡ some s)
  some_start u h m = go (next_start g load t) refl
    where
      go : (o : Option ℕ) → next_start g load t ≡ o → (s : ℕ) × (next_start g load t ≡ some s)
      go none e = absurd (start_none e u h m)
      go (some s) e = (s, e)

  pub no_start : ((u : Job) → u among t → MayStart g load t u → ⊥) → next_start g load t ≡ none
  no_start f = go (next_start g load t) refl
    where
      go : (o : Option ℕ) → next_start g load t ≡ o → next_start g load t ≡ none
      go none e = e
      go (some s) e = let l = start_lowest e in absurd (f l.job l.listed l.may)
