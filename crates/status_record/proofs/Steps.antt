-- What the code does with the window, as lists.
use Rattle.std.specs.Prelude.{Option}
use mathlib.Core.Path.{◌≡◌, refl, sym, ap, ◌∙◌}
use mathlib.Core.List.{List, [], ◌∷◌}
use Prim.Native.Nat.{ℕ, zero, suc, ◌+◌, ◌≤◌}
use native.Mathlib.Omega.{arith}
use lib.ListN.{length, take, drop, get_or}
use lib.Seq.{drop-cons}
use lib.Ieee.{Float, nan}
use Rattle.status_rates.specs.Rates.{whole_float}
use Rattle.status_record.specs.declared.Status.{Status}
use Rattle.status_record.specs.Record.{slid, held_times, current_of, finish_noted}

-- n entries from place i on, one by one
unfoldable pub spread : ℕ → ℕ → List Float → List Float
spread zero i w = []
spread (suc n) i w = get_or w i nan ∷ spread n (suc i) w

spread_take : (n i : ℕ) (w : List Float) → i + n ≤ length w → take n (drop i w) ≡ spread n i w
unfolding spread
spread_take zero i w h = refl
spread_take (suc n) i w h = ap (take (suc n)) (drop-cons w i nan (omega arith)) ∙ ap (λ (l : List Float). get_or w i nan ∷ l) (spread_take n (suc i) w (omega arith))

pub slid_law : (w : List Float) (t : Float) → 15 ≤ length w → t ∷ spread 15 0 w ≡ slid w t
unfolding slid
slid_law w t h = ap (λ (l : List Float). t ∷ l) (sym (spread_take 15 0 w h))

pub held_few : (jobs finished : ℕ) → held_times jobs finished ≤ 16
unfolding held_times
held_few jobs finished = omega arith

-- the record after a finish, put together from what was computed
pub noted_law : (s : Status) {t : Float} {w : List Float} {n : ℕ} {r : Option Float} → t ≡ whole_float s.last → w ≡ slid s.window t → n ≡ held_times s.jobs s.finished
    → r ≡ current_of w n
    → record { total = s.total; jobs = s.jobs; started = s.started; running = s.running; finished = s.finished; last = s.last; elapsed = s.elapsed; overall = s.overall; current = r; window = w } ≡ finish_noted s
unfolding finish_noted
noted_law s {t} {w} {n} {r} et ew en er = ap (λ (x : Option Float). with_rate x w) er ∙ ap (λ (k : ℕ). with_rate (current_of w k) w) en ∙ ap (λ (v : List Float). with_rate (current_of v (held_times s.jobs s.finished)) v) (ew ∙ ap (slid s.window) et)
  where
    with_rate : Option Float → List Float → Status
    with_rate x v = record { total = s.total; jobs = s.jobs; started = s.started; running = s.running; finished = s.finished; last = s.last; elapsed = s.elapsed; overall = s.overall; current = x; window = v }
