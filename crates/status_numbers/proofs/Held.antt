-- A record stands for a sound status, and that of a sound status for it.
use Rattle.std.specs.Prelude.{Option, Some, None, Float}
use mathlib.Core.Path.{◌≡◌, refl}
use Prim.Native.Nat.{◌-◌, min}
use native.Mathlib.Omega.{arith}
use Rattle.status_rates.specs.Within.{day}
use Rattle.status_record.specs.declared.Status.{Status}
use Rattle.status_record.specs.Record.{SoundStatus}
use Rattle.status_numbers.specs.declared.StatusRecord.{StatusRecord}
use Rattle.status_numbers.specs.Numbers.{rate_held, rate_flag, rate_number, status_held, record_of}

pub held_sound : (r : StatusRecord) → SoundStatus (status_held r)
unfolding status_held
held_sound r = record { runs = omega arith; within = omega arith; today = omega arith }

rate_back : (r : Option Float) → rate_held (rate_flag r) (rate_number r) ≡ r
unfolding rate_held rate_flag rate_number
rate_back None = refl
rate_back (Some x) = refl

started_back : (s : Status) → SoundStatus s → min s.started s.total ≡ s.started
started_back s h = omega (arith, h.within)

finished_back : (s : Status) → SoundStatus s → min s.finished (min s.started s.total) ≡ s.finished
finished_back s h = omega (arith, h.within, h.runs)

running_back : (s : Status) → SoundStatus s → min s.started s.total - min s.finished (min s.started s.total) ≡ s.running
running_back s h = omega (arith, h.within, h.runs)

last_back : (s : Status) → SoundStatus s → min s.last day ≡ s.last
last_back s h = omega (arith, h.today)

-- so events and lines on records are those on the statuses that they stand for
pub held_back : (s : Status) → SoundStatus s → status_held (record_of s) ≡ s
unfolding status_held record_of
held_back s h =
    λ i. record {
      total = s.total;
      jobs = s.jobs;
      started = started_back s h i;
      running = running_back s h i;
      finished = finished_back s h i;
      last = last_back s h i;
      elapsed = s.elapsed;
      overall = rate_back s.overall i;
      current = rate_back s.current i;
      window = s.window;
    }
