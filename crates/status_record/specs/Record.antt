-- The status record, the window of finish times, and what each event makes of them.
use Rattle.std.specs.Prelude.{ℕ, ◌+◌, ◌-◌, ◌≤◌, min, max, List, ◌∷◌, ◌≡◌, eqb, leb, take, get_or, replicate, Float, Option, None}
use Rattle.std.specs.Float.{nan, binary64}
use Rattle.std.specs.Float.Ieee.{sub}
use Rattle.lists.specs.Tests.{if_b}
use Rattle.status_rates.specs.Rates.{whole_float, seconds_of, rate_of}
use Rattle.status_rates.specs.Within.{day}
use Rattle.status_record.specs.declared.Status.{Status}

-- "Times are milliseconds from the start; one above 86,400,000 counts as that, one earlier than the last as the last."
unfoldable pub taken_time : ℕ → ℕ → ℕ
taken_time last t = max last (min t day)

-- before the first event: no time has passed
unfoldable pub first_status : ℕ → ℕ → Status
first_status total jobs =
    record {
      total = total;
      jobs = jobs;
      started = 0;
      running = 0;
      finished = 0;
      last = 0;
      elapsed = whole_float 0;
      overall = None;
      current = None;
      window = replicate 16 (whole_float 0);
    }

-- "The elapsed time and both rates are kept as floats in the status record": the clock at a time already taken, with the elapsed seconds and "`%o` is finished steps over elapsed seconds"
unfoldable pub clock_at : Status → ℕ → Status
unfolding seconds_of rate_of
clock_at s last =
    record {
      total = s.total;
      jobs = s.jobs;
      started = s.started;
      running = s.running;
      finished = s.finished;
      last = last;
      elapsed = seconds_of (whole_float last);
      overall = rate_of s.finished (seconds_of (whole_float last));
      current = s.current;
      window = s.window;
    }

-- the clock moved to a time, as at a printing
unfoldable pub moved_to : Status → ℕ → Status
unfolding taken_time clock_at
moved_to s t = clock_at s (taken_time s.last t)

-- other counts of steps
unfoldable pub counting : Status → ℕ → ℕ → ℕ → Status
counting s started running finished =
    record {
      total = s.total;
      jobs = s.jobs;
      started = started;
      running = running;
      finished = finished;
      last = s.last;
      elapsed = s.elapsed;
      overall = s.overall;
      current = s.current;
      window = s.window;
    }

-- "A start past the total .. changes nothing"
unfoldable pub start_at : Status → ℕ → Status
unfolding counting moved_to
start_at s t = if_b (leb s.total s.started) (λ _. s) (λ _. moved_to (counting s (s.started + 1) (s.running + 1) s.finished) t)

-- "the last finish times, kept in a window of sixteen by value, in milliseconds": the newest first
unfoldable pub slid : List Float → Float → List Float
slid w t = t ∷ take 15 w

-- "as many as jobs but at most sixteen"
unfoldable pub held_times : ℕ → ℕ → ℕ
held_times jobs finished = min finished (min jobs 16)

-- "count over last minus first as seconds, unknown where equal or none"
unfoldable pub current_of : List Float → ℕ → Option Float
unfolding seconds_of rate_of sub
current_of w n = if_b (eqb n 0) (λ _. None) (λ _. rate_of n (seconds_of (sub binary64 (get_or w 0 nan) (get_or w (n - 1) nan))))

-- another window, and its rate
unfoldable pub windowed : Status → List Float → Status
unfolding current_of held_times
windowed s w =
    record {
      total = s.total;
      jobs = s.jobs;
      started = s.started;
      running = s.running;
      finished = s.finished;
      last = s.last;
      elapsed = s.elapsed;
      overall = s.overall;
      current = current_of w (held_times s.jobs s.finished);
      window = w;
    }

-- the window and its rate after a finish at the clock's time
unfoldable pub finish_noted : Status → Status
unfolding windowed slid
finish_noted s = windowed s (slid s.window (whole_float s.last))

-- "a finish with none running changes nothing"
unfoldable pub finish_at : Status → ℕ → Status
unfolding counting moved_to finish_noted
finish_at s t = if_b (eqb s.running 0) (λ _. s) (λ _. finish_noted (moved_to (counting s s.started (s.running - 1) (s.finished + 1)) t))

-- Started, running and finished do not contradict one another, and the clock is within the day.
pub record SoundStatus (s : Status) : Type 0 where
  pub runs : s.running + s.finished ≡ s.started
  pub within : s.started ≤ s.total
  pub today : s.last ≤ day
