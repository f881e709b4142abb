-- The status record as numbers. Numbers that no sequence of events gives count as the nearest that one can give: no more started than there are, no more finished than started, no time past
-- the day. Rates, elapsed seconds and window are taken as they are.
use Rattle.std.specs.Prelude.{ℕ, ◌-◌, min, eqb, Float, Option, Some, None}
use Rattle.lists.specs.Tests.{if_b}
use Rattle.status_rates.specs.Rates.{whole_float}
use Rattle.status_rates.specs.Within.{day}
use Rattle.status_record.specs.declared.Status.{Status}
use Rattle.status_numbers.specs.declared.StatusRecord.{StatusRecord}

-- "A rate is a float or unknown": a flag that is 0 where it is unknown, and a number, then 0.0
unfoldable pub rate_held : ℕ → Float → Option Float
rate_held known r = if_b (eqb known 0) (λ _. None) (λ _. Some r)

unfoldable pub rate_flag : Option Float → ℕ
rate_flag None = 0
rate_flag (Some r) = 1

unfoldable pub rate_number : Option Float → Float
rate_number None = whole_float 0
rate_number (Some r) = r

-- the status that a record stands for
unfoldable pub status_held : StatusRecord → Status
unfolding rate_held
status_held r =
    let started = min r.started r.total in
    let finished = min r.finished started in
    record {
      total = r.total;
      jobs = r.jobs;
      started = started;
      running = started - finished;
      finished = finished;
      last = min r.last day;
      elapsed = r.elapsed;
      overall = rate_held r.timed r.overall;
      current = rate_held r.paced r.current;
      window = r.window;
    }

-- a status as a record
unfoldable pub record_of : Status → StatusRecord
unfolding rate_flag rate_number
record_of s =
    record {
      total = s.total;
      jobs = s.jobs;
      started = s.started;
      finished = s.finished;
      last = s.last;
      timed = rate_flag s.overall;
      paced = rate_flag s.current;
      elapsed = s.elapsed;
      overall = rate_number s.overall;
      current = rate_number s.current;
      window = s.window;
    }
