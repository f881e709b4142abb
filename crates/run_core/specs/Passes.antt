-- The passes over table and graph that tell which step may start.
use Rattle.std.specs.Prelude.{ℕ, ◌+◌, ◌*◌, ◌-◌, ◌/◌, ◌%◌, min, Bool, true, false, ◌&&◌, ◌||◌, List, [], ◌∷◌, eqb, ltb, leb, Float, get_or, set, Option as StdOption, Some, None}
use Rattle.std.proofs.Math.Option.{Option, none, some}
use Rattle.lists.specs.Tests.{if_b}
use Rattle.run_rules.specs.declared.Job.{Job}
use Rattle.run_rules.specs.Runner.{job_done, job_runs, running_jobs, not_started, heavy_load, failure_forbids}

-- 1 at each listed step that is not done
unfoldable pub marked_job : Job → List ℕ → List ℕ
marked_job j marks = if_b (job_done j) (λ _. marks) (λ _. set marks j.step 1)

unfoldable pub pending_marks : List Job → List ℕ → List ℕ
unfolding marked_job
pending_marks [] marks = marks
pending_marks (j ∷ t) marks = pending_marks t (marked_job j marks)

-- A number of a row: the flag is 1 where a step of the row so far is marked; at the row's end its step gets the flag as a second digit.
unfoldable pub turn_flag : ℕ → ℕ → List ℕ → ℕ
turn_flag v flag marks = if_b (eqb (v % 2) 1) (λ _. 0) (λ _. if_b (eqb (get_or marks (v / 2) 0) 0) (λ _. flag) (λ _. 1))

unfoldable pub turn_marks : ℕ → ℕ → List ℕ → List ℕ
turn_marks v flag marks = if_b (eqb (v % 2) 0) (λ _. marks) (λ _. set marks (v / 2) (get_or marks (v / 2) 0 % 2 + flag * 2))

unfoldable pub rows_marks : List ℕ → ℕ → List ℕ → List ℕ
unfolding turn_flag turn_marks
rows_marks [] flag marks = marks
rows_marks (v ∷ g) flag marks = rows_marks g (turn_flag v flag marks) (turn_marks v flag marks)

-- a running step takes one place of its pool
unfoldable pub taken_room : Job → List ℕ → List ℕ
taken_room j room = if_b (job_runs j) (λ _. set room j.pool (get_or room j.pool 0 - 1)) (λ _. room)

unfoldable pub room_left : List Job → List ℕ → List ℕ
unfolding taken_room
room_left [] room = room
room_left (j ∷ t) room = room_left t (taken_room j room)

unfoldable pub room_in : List ℕ → ℕ → Bool
room_in room p = eqb p 0 || ltb 0 (get_or room p 0)

-- not started, none upstream is pending, and the pool has room
unfoldable pub ready_job : List ℕ → List ℕ → Job → Bool
unfolding not_started room_in
ready_job marks room j = not_started j && (ltb (get_or marks j.step 0) 2 && room_in room j.pool)

-- the lowest step so far, and one more looked at
unfoldable pub start_answer : Option ℕ → StdOption ℕ
start_answer none = None
start_answer (some s) = Some s

unfoldable pub lower_start : ℕ → StdOption ℕ → StdOption ℕ
lower_start s None = Some s
lower_start s (Some r) = Some (min s r)

unfoldable pub looked_at : List ℕ → List ℕ → Job → StdOption ℕ → StdOption ℕ
unfolding ready_job lower_start
looked_at marks room j best = if_b (ready_job marks room j) (λ _. lower_start j.step best) (λ _. best)

-- "the job limit allows it and neither load nor a failure forbids it": what forbids every start
unfoldable pub held_back : ℕ → StdOption Float → Float → Bool
unfolding heavy_load
held_back r gate load = if_b (eqb r 0) (λ _. false) (λ _. heavy_load gate load)

unfoldable pub starts_shut : ℕ → StdOption Float → Float → List Job → Bool
unfolding running_jobs held_back failure_forbids
starts_shut limit gate load t = if_b (leb limit (running_jobs t)) (λ _. true) (λ _. if_b (held_back (running_jobs t) gate load) (λ _. true) (λ _. failure_forbids t))
