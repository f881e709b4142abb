-- A sequence of events from the first status on, and the finish times that it takes.
use Rattle.std.specs.Prelude.{ℕ, List, [], ◌∷◌, eqb}
use Rattle.lists.specs.Tests.{if_b}
use Rattle.status_record.specs.declared.Status.{Status}
use Rattle.status_record.specs.Record.{taken_time, first_status, moved_to, start_at, finish_at}

-- a step starts, a step finishes, a line is printed: each at a time
pub data Event : Type 0 where
  starts : ℕ → Event
  finishes : ℕ → Event
  prints : ℕ → Event

-- the status so far, with all finish times as taken, the newest first
pub record Ran : Type 0 where
  pub status : Status
  pub times : List ℕ

abbrev pub ran : Status → List ℕ → Ran
ran s ts = record { status = s; times = ts }

-- a finish that counts is taken at its time
unfoldable pub times_after : Status → ℕ → List ℕ → List ℕ
unfolding taken_time
times_after s t ts = if_b (eqb s.running 0) (λ _. ts) (λ _. taken_time s.last t ∷ ts)

unfoldable pub after : Ran → Event → Ran
unfolding start_at finish_at moved_to times_after
after r (starts t) = ran (start_at r.status t) r.times
after r (finishes t) = ran (finish_at r.status t) (times_after r.status t r.times)
after r (prints t) = ran (moved_to r.status t) r.times

unfoldable pub after_all : Ran → List Event → Ran
unfolding after
after_all r [] = r
after_all r (e ∷ es) = after_all (after r e) es

-- so many steps, so many jobs, and these events
unfoldable pub status_after : ℕ → ℕ → List Event → Ran
unfolding after_all first_status
status_after total jobs es = after_all (ran (first_status total jobs) []) es
