-- What holds of the status after any sequence of events.
use Rattle.std.specs.Prelude.{ℕ, ◌≤◌, List, [], ◌∷◌, ◌++◌, map, ◌≡◌, length, take, replicate, Float, Option, Some}
use Rattle.status_rates.specs.Rates.{whole_float, seconds_of, rate_of, tenths_of}
use Rattle.status_rates.specs.Within.{TenthsNear}
use Rattle.status_record.specs.Record.{SoundStatus, held_times, current_of}
use Rattle.status_record.specs.Events.{Ran}

-- times that fall from m on: the newest first
abbrev pub Falling : ℕ → List ℕ → Type 0
Falling m [] = Unit {0}
Falling m (t ∷ ts) = (t ≤ m) × Falling t ts

-- "running = started - finished, finished ≤ started ≤ total"; the elapsed time and the overall rate are those of the last time; the window has the last sixteen finish times as
-- taken, and the current rate is that of as many as jobs.
pub record SoundRun (r : Ran) : Type 0 where
  pub sound : SoundStatus r.status
  pub elapsed : r.status.elapsed ≡ seconds_of (whole_float r.status.last)
  pub overall : r.status.overall ≡ rate_of r.status.finished (seconds_of (whole_float r.status.last))
  pub many : length r.times ≡ r.status.finished
  pub falling : Falling r.status.last r.times
  pub window : r.status.window ≡ take 16 (map whole_float r.times ++ replicate 16 (whole_float 0))
  pub current : r.status.current ≡ current_of r.status.window (held_times r.status.jobs r.status.finished)

-- the rate is known, and its tenths are within 1 of those of n steps in m milliseconds
pub record KnownNear (r : Option Float) (n m : ℕ) : Type 0 where
  pub rate : Float
  pub known : r ≡ Some rate
  pub near : TenthsNear n m (tenths_of rate)
