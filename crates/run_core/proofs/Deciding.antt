-- What the marks and the room say is what the five conditions say, and the lowest step is found.
use Rattle.std.specs.Prelude.{Option as StdOption, None}
use Prim.Native.Nat.{ℕ, suc, ◌≤◌, ◌<◌}
use mathlib.Core.Bool.{Bool, true, false, not, cond, ◌&&◌, ◌||◌}
use mathlib.Core.List.{List, [], ◌∷◌}
use mathlib.Core.Option.{Option, none, some}
use mathlib.Core.Path.{◌≡◌, refl, sym, ap, ◌∙◌}
use native.Mathlib.Omega.{arith}
use borrow.Author.Tests.{eqb-true, eq-eqb, lt-leb, leb-false, lt-ltb, not-true}
use lib.Dec.{eqb, ltb, leb}
use lib.Ieee.{Float, nan}
use lib.ListN.{length, get_or, drop}
use lib.Seq.{drop-cons, drop-length}
use Rattle.lists.specs.Fill.{zeros}
use Rattle.lists.specs.Members.{◌∈◌, any, any_true, any_false}
use Rattle.lists.specs.Tests.{split, differ, and_left, and_right}
use Rattle.run_rules.specs.declared.Job.{Job}
use Rattle.run_rules.specs.Runner.{Given, job_done, job_failed, running_jobs, running_in, not_started, upstream_done, pool_has_room, limit_allows}
use Rattle.run_rules.specs.Runner.{heavy_load, load_forbids, failure_forbids, nothing_forbids, may_start, lower_of, lowest_step, next_start}
use Rattle.run_rules.specs.Claims.{◌among◌, MayStart}
use Rattle.run_rules.proofs.Tables.{any_jobs, jobs_any}
use Rattle.run_rules.proofs.Starts.{heavy_is, upstream_is, is_upstream, no_start}
use Rattle.run_core.specs.Numbers.{no_job, given_in}
use Rattle.run_core.specs.Passes.{pending_marks, rows_marks, room_left, room_in, ready_job, start_answer, lower_start, looked_at, held_back, starts_shut}
use Rattle.run_core.proofs.Rows.{pending_in, marks_test}
use Rattle.run_core.proofs.Rooms.{room_test}

-- ---- upstream
pending_is : (t : List Job) (x : ℕ) → pending_in t x ≡ true → (u : Job) × (u among t) × (u.step ≡ x) × (job_done u ≡ false)
unfolding pending_in
pending_is t x e =
    let (u, h, q) = any_jobs (λ u. not (job_done u) && eqb u.step x) t e in
    (u, h, eqb-true u.step x (and_right (not (job_done u)) (eqb u.step x) q), not-true (job_done u) (and_left (not (job_done u)) (eqb u.step x) q))

not_pending : (t : List Job) {u : Job} → u among t → pending_in t u.step ≡ false → u.state ≡ 2
unfolding pending_in
not_pending t {u} h e =
    split (job_done u) (λ (d : job_done u ≡ true). eqb-true u.state 2 d)
    (λ (d : job_done u ≡ false). differ (jobs_any (λ v. not (job_done v) && eqb v.step u.step) t h (rw (d, eq-eqb u.step u.step refl))) e)

upstream_test : (g : Given) (t : List Job) (j : Job) → upstream_done g t j ≡ not (any (pending_in t) (g.upstream j.step))
upstream_test g t j =
    split (any (pending_in t) (g.upstream j.step))
    (λ (e : any (pending_in t) (g.upstream j.step) ≡ true).
    let (x, m, p) = any_true (pending_in t) (g.upstream j.step) e in
    blocked e x m p)
    (λ (e : any (pending_in t) (g.upstream j.step) ≡ false).
    rw e (is_upstream g nan t j (λ u h m. not_pending t h (any_false (pending_in t) (g.upstream j.step) e m))))
  where
    blocked : any (pending_in t) (g.upstream j.step) ≡ true → (x : ℕ) → x ∈ g.upstream j.step → pending_in t x ≡ true
        → upstream_done g t j ≡ not (any (pending_in t) (g.upstream j.step))
    blocked e x m p =
        let (u, h, q, d) = pending_is t x p in
        split (upstream_done g t j)
        (λ (z : upstream_done g t j ≡ true). differ (eq-eqb u.state 2 (upstream_is g nan t j z u h (rw q m))) d)
        (λ (z : upstream_done g t j ≡ false). rw e z)

-- ---- what forbids every start
module _ (g : Given) (load : Float) (t : List Job) where
  failures : ((u : Job) → u among t → u.state ≡ 3 → ⊥) → failure_forbids t ≡ false
  unfolding failure_forbids
  failures f =
      split (any job_failed t) (λ (e : any job_failed t ≡ true). let (u, h, q) = any_jobs job_failed t e in absurd (f u h (eqb-true u.state 3 q))) (λ (e : any job_failed t ≡ false). e)

  may_open : {j : Job} → MayStart g load t j → starts_shut g.limit g.gate load t ≡ false
  unfolding starts_shut held_back
  may_open m =
      let a : leb g.limit (running_jobs t) ≡ false = lt-leb g.limit (running_jobs t) m.jobs in
      let b : held_back (running_jobs t) g.gate load ≡ false = calm in
      let c : failure_forbids t ≡ false = good in
      rw (a, b, c)
    where
      calm : held_back (running_jobs t) g.gate load ≡ false
      calm = split (heavy_load g.gate load)
          (λ (e : heavy_load g.gate load ≡ true). rw (m.calm (heavy_is g.gate load e)))
          (λ (e : heavy_load g.gate load ≡ false). split (eqb (running_jobs t) 0) (λ (z : eqb (running_jobs t) 0 ≡ true). rw z) (λ (z : eqb (running_jobs t) 0 ≡ false). rw (z, e)))

      good : failure_forbids t ≡ false
      good = failures (λ u h. m.good u h)

  pub shut_none : starts_shut g.limit g.gate load t ≡ true → next_start g load t ≡ none
  shut_none e = no_start g load t (λ u h m. differ e (may_open m))

  open_limit : starts_shut g.limit g.gate load t ≡ false → limit_allows g t ≡ true
  unfolding starts_shut limit_allows
  open_limit e =
      split (leb g.limit (running_jobs t)) (λ (a : leb g.limit (running_jobs t) ≡ true). differ refl (rw a at e))
      (λ (a : leb g.limit (running_jobs t) ≡ false). lt-ltb (running_jobs t) g.limit (leb-false g.limit (running_jobs t) a))

  open_all : starts_shut g.limit g.gate load t ≡ false → nothing_forbids g load t ≡ true
  unfolding starts_shut held_back nothing_forbids load_forbids
  open_all e =
      split (leb g.limit (running_jobs t)) (λ (a : leb g.limit (running_jobs t) ≡ true). differ refl (rw a at e))
      (λ (a : leb g.limit (running_jobs t) ≡ false).
      split (eqb (running_jobs t) 0)
      (λ (z : eqb (running_jobs t) 0 ≡ true).
      let f : failure_forbids t ≡ false = rw (a, z) at e in
      split (heavy_load g.gate load) (λ (w : heavy_load g.gate load ≡ true). rw (w, z, f)) (λ (w : heavy_load g.gate load ≡ false). rw (w, f)))
      (λ (z : eqb (running_jobs t) 0 ≡ false).
      split (heavy_load g.gate load)
      (λ (w : heavy_load g.gate load ≡ true). differ refl (rw (a, z, w) at e))
      (λ (w : heavy_load g.gate load ≡ false). let f : failure_forbids t ≡ false = rw (a, z, w) at e in rw (w, f))))

-- ---- the lowest step
lowest_cons : (p : Job → Bool) (j : Job) (t : List Job) → lowest_step p (j ∷ t) ≡ cond (p j) (lower_of j.step (lowest_step p t)) (lowest_step p t)
unfolding lowest_step
lowest_cons p j t = refl

lowest_nil : (p : Job → Bool) → lowest_step p [] ≡ none
unfolding lowest_step
lowest_nil p = refl

lowest_same : (p q : Job → Bool) → ((j : Job) → p j ≡ q j) → (t : List Job) → lowest_step p t ≡ lowest_step q t
lowest_same p q f [] = lowest_nil p ∙ sym (lowest_nil q)
lowest_same p q f (j ∷ t) =
    lowest_cons p j t
    ∙ ap (λ (b : Bool). cond b (lower_of j.step (lowest_step p t)) (lowest_step p t)) (f j)
    ∙ ap (λ (o : Option ℕ). cond (q j) (lower_of j.step o) o) (lowest_same p q f t)
    ∙ sym (lowest_cons q j t)

lower_answer : (s : ℕ) (o : Option ℕ) → lower_start s (start_answer o) ≡ start_answer (lower_of s o)
unfolding lower_start start_answer lower_of
lower_answer s none = refl
lower_answer s (some r) = refl

module _ (marks room : List ℕ) where
  looked : (j : Job) (o : Option ℕ) → looked_at marks room j (start_answer o) ≡ start_answer (cond (ready_job marks room j) (lower_of j.step o) o)
  unfolding looked_at
  looked j o =
      split (ready_job marks room j)
      (λ (e : ready_job marks room j ≡ true). rw e (lower_answer j.step o))
      (λ (e : ready_job marks room j ≡ false). rw e)

  -- The records from place i on were looked at.
  pub record LookedFrom (t : List Job) (i : ℕ) (best : StdOption ℕ) : Type 0 where
    pub within : i ≤ length t
    pub found : best ≡ start_answer (lowest_step (ready_job marks room) (drop i t))

  pub look_begin : (t : List Job) {i : ℕ} → i ≡ length t → LookedFrom t i None
  unfolding start_answer
  look_begin t {i} e = record {
    within = omega arith;
    found = sym (ap start_answer (ap (λ (k : ℕ). lowest_step (ready_job marks room) (drop k t)) e ∙ ap (lowest_step (ready_job marks room)) (drop-length t) ∙ lowest_nil (ready_job marks room)));
  }

  pub look_more : {t : List Job} {i k : ℕ} {best r : StdOption ℕ} {j : Job} → LookedFrom t i best → suc k ≡ i → j ≡ get_or t k no_job → r ≡ looked_at marks room j best → LookedFrom t k r
  look_more {t} {i} {k} {best} {r} {j} h e q d =
      let w : k < length t = (let z = h.within in omega arith) in
      record {
        within = omega arith;
        found =
            d ∙ ap (λ (b : StdOption ℕ). looked_at marks room j b) (h.found ∙ ap (λ (i : ℕ). start_answer (lowest_step (ready_job marks room) (drop i t))) (sym e))
            ∙ ap (λ (j : Job). looked_at marks room j (start_answer (lowest_step (ready_job marks room) (drop (suc k) t)))) q
            ∙ looked (get_or t k no_job) (lowest_step (ready_job marks room) (drop (suc k) t))
            ∙ ap start_answer (sym (ap (lowest_step (ready_job marks room)) (drop-cons t k no_job w) ∙ lowest_cons (ready_job marks room) (get_or t k no_job) (drop (suc k) t)));
      }

  pub look_end : {t : List Job} {i : ℕ} {best : StdOption ℕ} → LookedFrom t i best → i ≡ 0 → best ≡ start_answer (lowest_step (ready_job marks room) t)
  look_end {t} h e = h.found ∙ ap (λ (i : ℕ). start_answer (lowest_step (ready_job marks room) (drop i t))) e

-- ---- the start
module _ (n : ℕ) (graph room : List ℕ) (limit : ℕ) (gate : StdOption Float) (load : Float) (t : List Job) where
  abbrev given : Given
  given = given_in n graph room limit gate

  abbrev marks_now : List ℕ
  marks_now = rows_marks graph 0 (pending_marks t (zeros n))

  ready_is : starts_shut limit gate load t ≡ false → (j : Job) → ready_job marks_now (room_left t room) j ≡ may_start given load t j
  unfolding ready_job room_in may_start pool_has_room
  ready_is e j =
      rw (marks_test n graph t j.step, room_test t room j.pool, upstream_test given t j, open_limit given load t e, open_all given load t e)
      (plain (not_started j) (not (any (pending_in t) (given.upstream j.step))) (eqb j.pool 0 || ltb (running_in j.pool t) (given.depth j.pool)))
    where
      plain : (a b c : Bool) → a && (b && c) ≡ a && (b && (c && (true && true)))
      plain a b true = refl
      plain a b false = refl

  -- "the runner starts and names the lowest such step"
  pub start_found : starts_shut limit gate load t ≡ false → lowest_step (ready_job marks_now (room_left t room)) t ≡ next_start given load t
  unfolding next_start
  start_found e = lowest_same (ready_job marks_now (room_left t room)) (may_start given load t) (ready_is e) t
