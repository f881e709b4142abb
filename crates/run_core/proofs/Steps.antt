-- Each function's outcomes and turns of its loop, one law each.
use Rattle.std.specs.Prelude.{Option, Some, None, Ok, Err}
use Prim.Native.Nat.{ℕ, suc, ◌+◌, ◌*◌, ◌-◌, ◌/◌, ◌%◌, ◌≤◌, ◌<◌, min}
use mathlib.Core.Bool.{Bool, true, false, ◌||◌}
use mathlib.Core.List.{List, [], ◌∷◌}
use mathlib.Core.Path.{◌≡◌, refl, sym, ap, ◌∙◌, subst}
use native.Mathlib.Numerals.{add-one}
use native.Mathlib.Omega.{arith}
use borrow.Author.Tests.{eq-eqb, ne_eqb, lt-ltb, le-ltb, ltb-true, ltb-false, le-leb, lt-leb}
use lib.Dec.{eqb, ltb}
use lib.Ieee.{Float, is_nan, lt}
use lib.ListN.{length, get_or, set, drop, get_or-eq_default}
use lib.Seq.{drop-cons, drop-length, set_out, set-get_or}
use Rattle.lists.specs.Fill.{zeros, zeroed, zeroed_all}
use Rattle.lists.specs.Members.{any, any_cons, any_none}
use Rattle.lists.specs.Tests.{split}
use Rattle.run_rules.specs.declared.Job.{Job}
use Rattle.run_rules.specs.Runner.{job_runs, job_failed, count_jobs, running_jobs, heavy_load, failure_forbids, lowest_step, next_start, job_is, finish_of}
use Rattle.run_rules.specs.Places.{job_place}
use Rattle.run_rules.proofs.Tables.{one, count_cons, count_nil}
use Rattle.run_core.specs.Numbers.{no_job, given_in}
use Rattle.run_core.specs.Passes.{marked_job, pending_marks, turn_flag, turn_marks, rows_marks, taken_room, room_left, room_in, held_back, starts_shut, ready_job, start_answer, lower_start, looked_at}
use Rattle.run_core.proofs.Table.{PassedTo, pass_more, pass_end}
use Rattle.run_core.proofs.Rows.{marks_cons, marks_nil, marked_done, marked_undone, length_pending, rows_cons, rows_nil, flag_small, length_rows}
use Rattle.run_core.proofs.Rooms.{room_cons, room_nil, room_idle, room_taken, length_left}
use Rattle.run_core.proofs.Deciding.{shut_none, start_found}

-- ---- mark_job, mark_pending
module _ (j : Job) (marks : List ℕ) where
  pub mark_done : j.state ≡ 2 → marks ≡ marked_job j marks
  mark_done e = sym (marked_done j marks (eq-eqb j.state 2 e))

  pub mark_one : (j.state ≡ 2 → ⊥) → set marks j.step 1 ≡ marked_job j marks
  mark_one n = sym (marked_undone j marks (ne_eqb j.state 2 n))

  pub mark_past : (j.state ≡ 2 → ⊥) → length marks ≤ j.step → marks ≡ marked_job j marks
  mark_past n h = sym (set_out marks j.step 1 h) ∙ mark_one n

module _ {t : List Job} {x y : List ℕ} {i n : ℕ} where
  pub mark_more : {z : List ℕ} {j : Job} → PassedTo pending_marks t x y i → i < n → n ≡ length t → j ≡ get_or t i no_job → z ≡ marked_job j y → PassedTo pending_marks t x z (i + 1)
  mark_more h b e q d =
      rw (add-one i) (pass_more h (rw e at b) (marks_cons (get_or t i no_job) (drop (suc i) t) y ∙ ap (pending_marks (drop (suc i) t)) (ap (λ (j : Job). marked_job j y) (sym q) ∙ sym d)))

  pub mark_end : PassedTo pending_marks t x y i → n ≤ i → n ≡ length t → y ≡ pending_marks t x
  mark_end h b e = pass_end h (rw e at b) (marks_nil y)

  pub room_more : {z : List ℕ} {j : Job} → PassedTo room_left t x y i → i < n → n ≡ length t → j ≡ get_or t i no_job → z ≡ taken_room j y → PassedTo room_left t x z (i + 1)
  room_more h b e q d =
      rw (add-one i) (pass_more h (rw e at b) (room_cons (get_or t i no_job) (drop (suc i) t) y ∙ ap (room_left (drop (suc i) t)) (ap (λ (j : Job). taken_room j y) (sym q) ∙ sym d)))

  pub room_end : PassedTo room_left t x y i → n ≤ i → n ≡ length t → y ≡ room_left t x
  room_end h b e = pass_end h (rw e at b) (room_nil y)

module _ {t : List Job} {x y : List ℕ} {i : ℕ} where
  pub mark_long : PassedTo pending_marks t x y i → length y ≡ length x
  mark_long h = sym (length_pending (drop i t) y) ∙ ap length h.rest ∙ length_pending t x

  pub room_long : PassedTo room_left t x y i → length y ≡ length x
  room_long h = sym (length_left (drop i t) y) ∙ ap length h.rest ∙ length_left t x

-- ---- turn_flag, turn_marks, pass_rows
module _ (v flag : ℕ) (marks : List ℕ) where
  pub flag_end : v % 2 ≡ 1 → 0 ≡ turn_flag v flag marks
  unfolding turn_flag
  flag_end e = rw (eq-eqb (v % 2) 1 e)

  pub flag_clear : (v % 2 ≡ 1 → ⊥) → get_or marks (v / 2) 0 ≡ 0 → flag ≡ turn_flag v flag marks
  unfolding turn_flag
  flag_clear n e = rw (ne_eqb (v % 2) 1 n, eq-eqb (get_or marks (v / 2) 0) 0 e)

  pub flag_past : (v % 2 ≡ 1 → ⊥) → length marks ≤ v / 2 → flag ≡ turn_flag v flag marks
  flag_past n h = flag_clear n (get_or-eq_default marks 0 {n = v / 2} h)

  pub flag_set : (v % 2 ≡ 1 → ⊥) → (get_or marks (v / 2) 0 ≡ 0 → ⊥) → 1 ≡ turn_flag v flag marks
  unfolding turn_flag
  flag_set n d = rw (ne_eqb (v % 2) 1 n, ne_eqb (get_or marks (v / 2) 0) 0 d)

  pub turn_row : v % 2 ≡ 0 → marks ≡ turn_marks v flag marks
  unfolding turn_marks
  turn_row e = rw (eq-eqb (v % 2) 0 e)

  pub turn_end : (v % 2 ≡ 0 → ⊥) → set marks (v / 2) (get_or marks (v / 2) 0 % 2 + flag * 2) ≡ turn_marks v flag marks
  unfolding turn_marks
  turn_end n = rw (ne_eqb (v % 2) 0 n)

  pub turn_past : (v % 2 ≡ 0 → ⊥) → length marks ≤ v / 2 → marks ≡ turn_marks v flag marks
  turn_past n h = sym (set_out marks (v / 2) (get_or marks (v / 2) 0 % 2 + flag * 2) h) ∙ turn_end n

pub record RowsTo (g first : List ℕ) (flag : ℕ) (marks : List ℕ) (i : ℕ) : Type 0 where
  pub within : i ≤ length g
  pub small : flag < 2
  pub rest : rows_marks (drop i g) flag marks ≡ rows_marks g 0 first

module _ {g first : List ℕ} where
  pub rows_begin : RowsTo g first 0 first 0
  rows_begin = record { within = omega arith; small = omega arith; rest = refl }

  pub rows_more : {flag i v next : ℕ} {marks after : List ℕ} → RowsTo g first flag marks i → i < length g → v ≡ get_or g i 0 → next ≡ turn_flag v flag marks → after ≡ turn_marks v flag marks
      → RowsTo g first next after (i + 1)
  rows_more {flag} {i} {v} {next} {marks} {after} h b e f d = rw (add-one i) (record {
    within = b;
    small = rw f (flag_small v flag marks h.small);
    rest =
        ap (λ (k : ℕ). rows_marks (drop (suc i) g) k after) (f ∙ ap (λ (v : ℕ). turn_flag v flag marks) e)
        ∙ ap (rows_marks (drop (suc i) g) (turn_flag (get_or g i 0) flag marks)) (d ∙ ap (λ (v : ℕ). turn_marks v flag marks) e)
        ∙ sym (ap (λ (l : List ℕ). rows_marks l flag marks) (drop-cons g i 0 b) ∙ rows_cons (get_or g i 0) (drop (suc i) g) flag marks)
        ∙ h.rest;
  })

  pub rows_end : {flag i : ℕ} {marks : List ℕ} → RowsTo g first flag marks i → length g ≤ i → marks ≡ rows_marks g 0 first
  rows_end {flag} {i} {marks} h b =
      let z : i ≡ length g = (let w = h.within in omega arith) in
      sym (ap (λ (l : List ℕ). rows_marks l flag marks) (ap (λ (k : ℕ). drop k g) z ∙ drop-length g) ∙ rows_nil flag marks) ∙ h.rest

  pub rows_long : {flag i : ℕ} {marks : List ℕ} → RowsTo g first flag marks i → length marks ≡ length first
  rows_long {flag} {i} {marks} h = sym (length_rows (drop i g) flag marks) ∙ ap length h.rest ∙ length_rows g 0 first

-- ---- take_room
module _ (j : Job) (room : List ℕ) where
  pub room_same : (j.state ≡ 1 → ⊥) → room ≡ taken_room j room
  room_same n = sym (room_idle j room (ne_eqb j.state 1 n))

  pub room_less : j.state ≡ 1 → set room j.pool (get_or room j.pool 0 - 1) ≡ taken_room j room
  room_less e = sym (room_taken j room (eq-eqb j.state 1 e))

  pub room_empty : j.state ≡ 1 → get_or room j.pool 0 ≤ 0 → room ≡ taken_room j room
  room_empty e h =
      let z : get_or room j.pool 0 ≡ get_or room j.pool 0 - 1 = omega arith in
      sym (set-get_or room j.pool 0) ∙ ap (set room j.pool) z ∙ room_less e

  pub room_past : j.state ≡ 1 → length room ≤ j.pool → room ≡ taken_room j room
  room_past e h = sym (set_out room j.pool (get_or room j.pool 0 - 1) h) ∙ room_less e

-- ---- count_running
pub record CountedTo (t : List Job) (r i : ℕ) : Type 0 where
  pub within : i ≤ length t
  pub few : r ≤ i
  pub rest : r + count_jobs job_runs (drop i t) ≡ count_jobs job_runs t

module _ {t : List Job} where
  pub count_begin : CountedTo t 0 0
  count_begin = record { within = omega arith; few = omega arith; rest = omega arith }

  count_at : (r i k : ℕ) → CountedTo t r i → i < length t → one (job_runs (get_or t i no_job)) ≡ k → CountedTo t (r + k) (i + 1)
  count_at r i k h b e =
      let c = ap (count_jobs job_runs) (drop-cons t i no_job b) ∙ count_cons job_runs (get_or t i no_job) (drop (suc i) t) in
      let f = h.few in
      let w = h.rest in
      rw (add-one i) (record { within = b; few = bounded (job_runs (get_or t i no_job)) e; rest = omega (arith, c) })
    where
      bounded : (b : Bool) → one b ≡ k → r + k ≤ suc i
      bounded true q = let f = h.few in omega arith
      bounded false q = let f = h.few in omega arith

  pub count_one : {r i n : ℕ} {j : Job} → CountedTo t r i → i < n → n ≡ length t → j ≡ get_or t i no_job → j.state ≡ 1 → CountedTo t (r + 1) (i + 1)
  count_one {r} {i} h b e q s = count_at r i 1 h (rw e at b) (ap one (eq-eqb (get_or t i no_job).state 1 (sym (ap (λ (j : Job). j.state) q) ∙ s)))

  pub count_skip : {r i n : ℕ} {j : Job} → CountedTo t r i → i < n → n ≡ length t → j ≡ get_or t i no_job → (j.state ≡ 1 → ⊥) → CountedTo t r (i + 1)
  count_skip {r} {i} h b e q s =
      let z : r + 0 ≡ r = omega arith in
      subst (λ (k : ℕ). CountedTo t k (i + 1)) z
      (count_at r i 0 h (rw e at b) (ap one (ne_eqb (get_or t i no_job).state 1 (λ d. s (ap (λ (j : Job). j.state) q ∙ d)))))

  pub count_end : {r i n : ℕ} → CountedTo t r i → n ≤ i → n ≡ length t → r ≡ running_jobs t
  unfolding running_jobs
  count_end {r} {i} h b e =
      let z : i ≡ length t = (let w = h.within in omega arith) in
      let c = ap (count_jobs job_runs) (ap (λ (k : ℕ). drop k t) z ∙ drop-length t) ∙ count_nil job_runs in
      let w = h.rest in
      omega (arith, c)

-- ---- any_failed
pub record SoughtTo (t : List Job) (i : ℕ) : Type 0 where
  pub within : i ≤ length t
  pub rest : any job_failed (drop i t) ≡ any job_failed t

seek_cons : (t : List Job) (i : ℕ) → i < length t → any job_failed (drop i t) ≡ job_failed (get_or t i no_job) || any job_failed (drop (suc i) t)
seek_cons t i b = ap (any job_failed) (drop-cons t i no_job b) ∙ any_cons job_failed (get_or t i no_job) (drop (suc i) t)

module _ {t : List Job} where
  pub seek_begin : SoughtTo t 0
  seek_begin = record { within = omega arith; rest = refl }

  pub seek_found : {i n : ℕ} {j : Job} → SoughtTo t i → i < n → n ≡ length t → j ≡ get_or t i no_job → j.state ≡ 3 → true ≡ failure_forbids t
  unfolding failure_forbids
  seek_found {i} h b e q s =
      let d : job_failed (get_or t i no_job) ≡ true = eq-eqb (get_or t i no_job).state 3 (sym (ap (λ (j : Job). j.state) q) ∙ s) in
      sym (seek_cons t i (rw e at b) ∙ ap (λ (b : Bool). b || any job_failed (drop (suc i) t)) d) ∙ h.rest

  pub seek_more : {i n : ℕ} {j : Job} → SoughtTo t i → i < n → n ≡ length t → j ≡ get_or t i no_job → (j.state ≡ 3 → ⊥) → SoughtTo t (i + 1)
  seek_more {i} h b e q s =
      let d : job_failed (get_or t i no_job) ≡ false = ne_eqb (get_or t i no_job).state 3 (λ z. s (ap (λ (j : Job). j.state) q ∙ z)) in
      rw (add-one i) (record { within = rw e at b; rest = sym (seek_cons t i (rw e at b) ∙ ap (λ (b : Bool). b || any job_failed (drop (suc i) t)) d) ∙ h.rest })

  pub seek_end : {i n : ℕ} → SoughtTo t i → n ≤ i → n ≡ length t → false ≡ failure_forbids t
  unfolding failure_forbids
  seek_end {i} h b e =
      let z : i ≡ length t = (let w = h.within in omega arith) in
      sym (ap (any job_failed) (ap (λ (k : ℕ). drop k t) z ∙ drop-length t) ∙ any_none job_failed) ∙ h.rest

-- ---- is_heavy, held_back, starts_shut
module _ (highest load : Float) where
  pub heavy_nan : is_nan load ≡ true → true ≡ heavy_load (Some highest) load
  unfolding heavy_load
  heavy_nan d = rw d

  pub heavy_above : is_nan load ≡ false → lt highest load ≡ heavy_load (Some highest) load
  unfolding heavy_load
  heavy_above d = rw d

pub heavy_off : (load : Float) → false ≡ heavy_load None load
unfolding heavy_load
heavy_off load = refl

module _ (gate : Option Float) (load : Float) where
  pub held_none : {r : ℕ} → r ≡ 0 → false ≡ held_back r gate load
  unfolding held_back
  held_none {r} e = rw (eq-eqb r 0 e)

  pub held_some : {r : ℕ} → (r ≡ 0 → ⊥) → heavy_load gate load ≡ held_back r gate load
  unfolding held_back
  held_some {r} n = rw (ne_eqb r 0 n)

  module _ {limit r : ℕ} (t : List Job) (e : r ≡ running_jobs t) where
    pub shut_limit : limit ≤ r → true ≡ starts_shut limit gate load t
    unfolding starts_shut
    shut_limit h = rw (le-leb limit (running_jobs t) (rw e at h))

    pub shut_held : r < limit → held_back r gate load ≡ true → true ≡ starts_shut limit gate load t
    unfolding starts_shut
    shut_held h d = rw (lt-leb limit (running_jobs t) (rw e at h), rw e at d)

    pub shut_failed : r < limit → held_back r gate load ≡ false → failure_forbids t ≡ starts_shut limit gate load t
    unfolding starts_shut
    shut_failed h d = rw (lt-leb limit (running_jobs t) (rw e at h), rw e at d)

-- ---- is_clear, has_room, is_ready
module _ (marks : List ℕ) (s : ℕ) where
  pub clear_past : length marks ≤ s → true ≡ ltb (get_or marks s 0) 2
  clear_past h = rw (get_or-eq_default marks 0 {n = s} h)

module _ (room : List ℕ) (p : ℕ) where
  pub room_free : p ≡ 0 → true ≡ room_in room p
  unfolding room_in
  room_free e = rw e

  pub room_none : (p ≡ 0 → ⊥) → length room ≤ p → false ≡ room_in room p
  unfolding room_in
  room_none n h = rw (ne_eqb p 0 n, get_or-eq_default room 0 {n = p} h)

  pub room_some : (p ≡ 0 → ⊥) → ltb 0 (get_or room p 0) ≡ room_in room p
  unfolding room_in
  room_some n = rw (ne_eqb p 0 n)

module _ (marks room : List ℕ) (j : Job) where
  pub ready_late : (j.state ≡ 0 → ⊥) → false ≡ ready_job marks room j
  unfolding ready_job
  ready_late n = rw (ne_eqb j.state 0 n)

  pub ready_blocked : {b : Bool} → j.state ≡ 0 → b ≡ ltb (get_or marks j.step 0) 2 → b ≡ false → false ≡ ready_job marks room j
  unfolding ready_job
  ready_blocked e d f = rw (eq-eqb j.state 0 e, sym d ∙ f)

  pub ready_room : {b : Bool} → j.state ≡ 0 → b ≡ ltb (get_or marks j.step 0) 2 → b ≡ true → room_in room j.pool ≡ ready_job marks room j
  unfolding ready_job
  ready_room e d f = rw (eq-eqb j.state 0 e, sym d ∙ f)

  pub look_taken : {b : Bool} (best : Option ℕ) → b ≡ ready_job marks room j → b ≡ true → lower_start j.step best ≡ looked_at marks room j best
  unfolding looked_at
  look_taken best d f = rw (sym d ∙ f)

  pub look_left : {b : Bool} (best : Option ℕ) → b ≡ ready_job marks room j → b ≡ false → best ≡ looked_at marks room j best
  unfolding looked_at
  look_left best d f = rw (sym d ∙ f)

-- ---- lower_start
pub lower_first : (s : ℕ) → Some s ≡ lower_start s None
unfolding lower_start
lower_first s = refl

pub lower_next : (s r : ℕ) → Some (min s r) ≡ lower_start s (Some r)
unfolding lower_start
lower_next s r = refl

-- ---- start_of
module _ (graph room : List ℕ) (limit : ℕ) (gate : Option Float) (load : Float) (t : List Job) {b : Bool} (d : b ≡ starts_shut limit gate load t) where
  pub start_shut : (n : ℕ) → b ≡ true → None ≡ start_answer (next_start (given_in n graph room limit gate) load t)
  unfolding start_answer
  start_shut n e = ap start_answer (sym (shut_none (given_in n graph room limit gate) load t (sym d ∙ e)))

  pub start_lowest : (m₀ : List ℕ) {m₁ m₂ m₃ left : List ℕ} {r : Option ℕ} → b ≡ false → m₁ ≡ zeroed m₀ 0 (length m₀) → m₂ ≡ pending_marks t m₁ → m₃ ≡ rows_marks graph 0 m₂
      → left ≡ room_left t room → r ≡ start_answer (lowest_step (ready_job m₃ left) t) → r ≡ start_answer (next_start (given_in (length m₀) graph room limit gate) load t)
  start_lowest m₀ {m₁} {m₂} {m₃} {left} {r} e a p g l q =
      let m : m₃ ≡ rows_marks graph 0 (pending_marks t (zeros (length m₀))) = g ∙ ap (rows_marks graph 0) (p ∙ ap (pending_marks t) (a ∙ zeroed_all m₀)) in
      q
      ∙ ap (λ (k : List ℕ). start_answer (lowest_step (ready_job k left) t)) m
      ∙ ap (λ (k : List ℕ). start_answer (lowest_step (ready_job (rows_marks graph 0 (pending_marks t (zeros (length m₀)))) k) t)) l
      ∙ ap start_answer (start_found (length m₀) graph room limit gate load t (sym d ∙ e))

-- ---- is_job, place_of, finish_of
module _ (j : Job) (s a : ℕ) where
  pub job_other : (j.step ≡ s → ⊥) → false ≡ job_is s a j
  job_other n = rw (ne_eqb j.step s n)

  pub job_state : j.step ≡ s → eqb j.state a ≡ job_is s a j
  job_state e = rw (eq-eqb j.step s e)

place_here : (s a : ℕ) (j : Job) (t : List Job) → job_is s a j ≡ true → job_place s a (j ∷ t) ≡ 0
unfolding job_place
place_here s a j t e = rw e

place_later : (s a : ℕ) (j : Job) (t : List Job) → job_is s a j ≡ false → job_place s a (j ∷ t) ≡ suc (job_place s a t)
unfolding job_place
place_later s a j t e = rw e

place_nil : (s a : ℕ) → job_place s a [] ≡ 0
unfolding job_place
place_nil s a = refl

pub record PlacedTo (s a : ℕ) (t : List Job) (i : ℕ) : Type 0 where
  pub within : i ≤ length t
  pub rest : i + job_place s a (drop i t) ≡ job_place s a t

module _ {s a : ℕ} {t : List Job} where
  pub place_begin : PlacedTo s a t 0
  place_begin = record { within = omega arith; rest = omega arith }

  pub place_found : {i n : ℕ} {j : Job} {b : Bool} → PlacedTo s a t i → i < n → n ≡ length t → j ≡ get_or t i no_job → b ≡ job_is s a j → b ≡ true → i ≡ job_place s a t
  place_found {i} h l e q d f =
      let c = ap (job_place s a) (drop-cons t i no_job (rw e at l)) ∙ place_here s a (get_or t i no_job) (drop (suc i) t) (ap (job_is s a) (sym q) ∙ sym d ∙ f) in
      let w = h.rest in
      omega (arith, c)

  pub place_more : {i n : ℕ} {j : Job} {b : Bool} → PlacedTo s a t i → i < n → n ≡ length t → j ≡ get_or t i no_job → b ≡ job_is s a j → b ≡ false → PlacedTo s a t (i + 1)
  place_more {i} h l e q d f =
      let c = ap (job_place s a) (drop-cons t i no_job (rw e at l)) ∙ place_later s a (get_or t i no_job) (drop (suc i) t) (ap (job_is s a) (sym q) ∙ sym d ∙ f) in
      let w = h.rest in
      rw (add-one i) (record { within = rw e at l; rest = omega (arith, c) })

  pub place_end : {i n : ℕ} → PlacedTo s a t i → n ≤ i → n ≡ length t → i ≡ job_place s a t
  place_end {i} h b e =
      let z : i ≡ length t = (let w = h.within in omega arith) in
      let c = ap (job_place s a) (ap (λ (k : ℕ). drop k t) z ∙ drop-length t) ∙ place_nil s a in
      let w = h.rest in
      omega (arith, c)

place_any : (s a : ℕ) (t : List Job) → any (job_is s a) t ≡ ltb (job_place s a t) (length t)
place_any s a [] = any_none (job_is s a) ∙ sym (le-ltb (job_place s a []) 0 (omega arith))
place_any s a (j ∷ t) =
    any_cons (job_is s a) j t
    ∙ split (job_is s a j)
    (λ (e : job_is s a j ≡ true). let z = place_here s a j t e in rw e (sym (lt-ltb (job_place s a (j ∷ t)) (suc (length t)) (omega arith))))
    (λ (e : job_is s a j ≡ false).
    let z = place_later s a j t e in
    rw e (place_any s a t ∙ shift (job_place s a t) (length t) ∙ ap (λ (k : ℕ). ltb k (suc (length t))) (sym z)))
  where
    shift : (p n : ℕ) → ltb p n ≡ ltb (suc p) (suc n)
    shift p n = split (ltb p n)
        (λ (e : ltb p n ≡ true). e ∙ sym (lt-ltb (suc p) (suc n) (let h = ltb-true p n e in omega arith)))
        (λ (e : ltb p n ≡ false). e ∙ sym (le-ltb (suc p) (suc n) (let h = ltb-false p n e in omega arith)))

module _ (t : List Job) (s : ℕ) {k n : ℕ} (p : k ≡ job_place s 1 t) (e : n ≡ length t) where
  pub finish_noted_law : k < n → (Ok tt) ≡ finish_of t s
  unfolding finish_of
  finish_noted_law h = let z : any (job_is s 1) t ≡ true = place_any s 1 t ∙ lt-ltb (job_place s 1 t) (length t) (omega arith) in rw z

  pub finish_refused : n ≤ k → Err s ≡ finish_of t s
  unfolding finish_of
  finish_refused h = let z : any (job_is s 1) t ≡ false = place_any s 1 t ∙ le-ltb (job_place s 1 t) (length t) (omega arith) in rw z
