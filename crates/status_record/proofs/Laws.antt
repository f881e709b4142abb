-- What holds of the status along any sequence of events.
use Rattle.std.specs.Prelude.{None}
use mathlib.Core.Path.{◌≡◌, refl, sym, ap, ◌∙◌, subst}
use mathlib.Core.Bool.{true, false}
use mathlib.Core.List.{List, [], ◌∷◌}
use Prim.Native.Nat.{ℕ, ◌+◌, ◌-◌, ◌≤◌, ◌<◌}
use native.Mathlib.Nat.{le_refl, le_trans, le_of_eq}
use native.Mathlib.Omega.{arith}
use borrow.Author.Tests.{leb-true, leb-false, eqb-true, eqb-false, eq-eqb, ne_eqb, le-leb}
use lib.Dec.{eqb, leb}
use lib.ListN.{length, get_or, replicate}
use lib.Ieee.{Float, nan, binary64, sub, div}
use Rattle.lists.specs.Tests.{if_b, split}
use Rattle.status_rates.specs.Rates.{whole_float, seconds_of, rate_of}
use Rattle.status_rates.specs.Within.{day}
use Rattle.status_rates.proofs.Bound.{tenths_near, rate_known, rate_none, sub_whole}
use Rattle.status_record.specs.declared.Status.{Status}
use Rattle.status_record.specs.Record.{taken_time, first_status, clock_at, moved_to, counting, start_at, held_times, current_of, finish_noted, finish_at, SoundStatus}
use Rattle.status_record.specs.Events.{Event, starts, finishes, prints, Ran, ran, times_after, after, after_all, status_after}
use Rattle.status_record.specs.Claims.{SoundRun, KnownNear}
use Rattle.status_record.proofs.Times.{taken_day, taken_later, taken_past, taken_early, falling_on, falling_below, falling_first, window_more, window_entry}

-- ---- the counts
pub sound_first : (total jobs : ℕ) → SoundStatus (first_status total jobs)
unfolding first_status
sound_first total jobs = record { runs = refl; within = omega arith; today = omega arith }

pub sound_move : {s : Status} (t : ℕ) → SoundStatus s → SoundStatus (moved_to s t)
unfolding moved_to
sound_move {s} t h = record { runs = h.runs; within = h.within; today = taken_day s.last t h.today }

pub sound_start : {s : Status} (t : ℕ) → SoundStatus s → SoundStatus (start_at s t)
unfolding start_at
sound_start {s} t h =
    split (leb s.total s.started) (λ (e : leb s.total s.started ≡ true). rw e h)
    (λ (e : leb s.total s.started ≡ false).
    let l : s.started < s.total = leb-false s.total s.started e in
    let r = h.runs in
    rw e (record { runs = omega arith; within = omega arith; today = taken_day s.last t h.today }))

pub sound_finish : {s : Status} (t : ℕ) → SoundStatus s → SoundStatus (finish_at s t)
unfolding finish_at
sound_finish {s} t h =
    split (eqb s.running 0) (λ (e : eqb s.running 0 ≡ true). rw e h)
    (λ (e : eqb s.running 0 ≡ false).
    let l = eqb-false s.running 0 e in
    let r = h.runs in
    let w = h.within in
    rw e (record { runs = omega arith; within = omega arith; today = taken_day s.last t h.today }))

-- ---- what changes nothing, and times that count as others
-- "A start past the total .. changes nothing"
pub start_ignored : (s : Status) (t : ℕ) → s.total ≤ s.started → start_at s t ≡ s
unfolding start_at
start_ignored s t h = rw (le-leb s.total s.started h)

-- "a finish with none running changes nothing"
pub finish_ignored : (s : Status) (t : ℕ) → s.running ≡ 0 → finish_at s t ≡ s
unfolding finish_at
finish_ignored s t h = rw (eq-eqb s.running 0 h)

-- a time past the day is the day's last, at any event
pub move_past : (s : Status) (t : ℕ) → day ≤ t → moved_to s t ≡ moved_to s day
unfolding moved_to
move_past s t h = ap (clock_at s) (taken_past s.last t h)

pub start_past : (s : Status) (t : ℕ) → day ≤ t → start_at s t ≡ start_at s day
unfolding start_at
start_past s t h = ap (λ (x : Status). if_b (leb s.total s.started) (λ _. s) (λ _. x)) (move_past (counting s (s.started + 1) (s.running + 1) s.finished) t h)

pub finish_past : (s : Status) (t : ℕ) → day ≤ t → finish_at s t ≡ finish_at s day
unfolding finish_at
finish_past s t h = ap (λ (x : Status). if_b (eqb s.running 0) (λ _. s) (λ _. finish_noted x)) (move_past (counting s s.started (s.running - 1) (s.finished + 1)) t h)

-- a time before the last is the last
pub move_early : (s : Status) (t : ℕ) → t ≤ s.last → moved_to s t ≡ moved_to s s.last
unfolding moved_to
move_early s t h = ap (clock_at s) (taken_early s.last t h ∙ sym (taken_early s.last s.last (le_refl s.last)))

pub start_early : (s : Status) (t : ℕ) → t ≤ s.last → start_at s t ≡ start_at s s.last
unfolding start_at
start_early s t h = ap (λ (x : Status). if_b (leb s.total s.started) (λ _. s) (λ _. x)) (move_early (counting s (s.started + 1) (s.running + 1) s.finished) t h)

pub finish_early : (s : Status) (t : ℕ) → t ≤ s.last → finish_at s t ≡ finish_at s s.last
unfolding finish_at
finish_early s t h = ap (λ (x : Status). if_b (eqb s.running 0) (λ _. s) (λ _. finish_noted x)) (move_early (counting s s.started (s.running - 1) (s.finished + 1)) t h)

-- ---- everything that the record keeps
none_held : (j : ℕ) → held_times j 0 ≡ 0
unfolding held_times
none_held j = omega arith

none_current : (w : List Float) → current_of w 0 ≡ None
unfolding current_of
none_current w = refl

run_first : (total jobs : ℕ) → SoundRun (ran (first_status total jobs) [])
unfolding first_status seconds_of
run_first total jobs =
    record {
      sound = sound_first total jobs;
      elapsed = refl;
      overall = sym (rate_none 0);
      many = refl;
      falling = tt;
      window = refl;
      current = sym (ap (λ (n : ℕ). current_of (replicate 16 (whole_float 0)) n) (none_held jobs) ∙ none_current (replicate 16 (whole_float 0)));
    }

-- the clock moved, the counts of those that finished as they are
run_moved : {r : Ran} (s : Status) (t : ℕ) → SoundRun r → s.last ≡ r.status.last → s.finished ≡ r.status.finished → s.window ≡ r.status.window → s.jobs ≡ r.status.jobs
    → s.current ≡ r.status.current → SoundStatus (moved_to s t) → SoundRun (ran (moved_to s t) r.times)
unfolding moved_to
run_moved {r} s t h el ef ew ej ec so =
    record {
      sound = so;
      elapsed = refl;
      overall = refl;
      many = h.many ∙ sym ef;
      falling = falling_on r.status.last (taken_time s.last t) r.times (subst (λ (l : ℕ). l ≤ taken_time s.last t) el (taken_later s.last t)) h.falling;
      window = ew ∙ h.window;
      current = ec ∙ h.current ∙ ap (λ (w : List Float). current_of w (held_times r.status.jobs r.status.finished)) (sym ew)
          ∙ ap (λ (j : ℕ). current_of s.window (held_times j r.status.finished)) (sym ej)
          ∙ ap (λ (n : ℕ). current_of s.window (held_times s.jobs n)) (sym ef);
    }

run_prints : {r : Ran} (t : ℕ) → SoundRun r → SoundRun (ran (moved_to r.status t) r.times)
run_prints {r} t h = run_moved {r = r} r.status t h refl refl refl refl refl (sound_move t h.sound)

start_cases : (s : Status) (t : ℕ) → leb s.total s.started ≡ false → start_at s t ≡ moved_to (counting s (s.started + 1) (s.running + 1) s.finished) t
unfolding start_at
start_cases s t e = rw e

run_starts : {r : Ran} (t : ℕ) → SoundRun r → SoundRun (ran (start_at r.status t) r.times)
unfolding counting
run_starts {r} t h =
    let s = r.status in
    split (leb s.total s.started) (λ (e : leb s.total s.started ≡ true). subst (λ (x : Status). SoundRun (ran x r.times)) (sym (start_ignored s t (leb-true s.total s.started e))) h)
    (λ (e : leb s.total s.started ≡ false).
    subst (λ (x : Status). SoundRun (ran x r.times)) (sym (start_cases s t e))
    (run_moved {r = r} (counting s (s.started + 1) (s.running + 1) s.finished) t h refl refl refl refl refl
    (subst SoundStatus (start_cases s t e) (sound_start t h.sound))))

finish_cases : (s : Status) (t : ℕ) → eqb s.running 0 ≡ false → finish_at s t ≡ finish_noted (moved_to (counting s s.started (s.running - 1) (s.finished + 1)) t)
unfolding finish_at
finish_cases s t e = rw e

times_ignored : (s : Status) (t : ℕ) (ts : List ℕ) → s.running ≡ 0 → times_after s t ts ≡ ts
unfolding times_after
times_ignored s t ts h = rw (eq-eqb s.running 0 h)

times_cases : (s : Status) (t : ℕ) (ts : List ℕ) → eqb s.running 0 ≡ false → times_after s t ts ≡ taken_time s.last t ∷ ts
unfolding times_after
times_cases s t ts e = rw e

run_noted : {r : Ran} (t : ℕ) → SoundRun r → SoundStatus (finish_noted (moved_to (counting r.status r.status.started (r.status.running - 1) (r.status.finished + 1)) t))
    → SoundRun (ran (finish_noted (moved_to (counting r.status r.status.started (r.status.running - 1) (r.status.finished + 1)) t)) (taken_time r.status.last t ∷ r.times))
unfolding finish_noted moved_to counting
run_noted {r} t h so =
    record {
      sound = so;
      elapsed = refl;
      overall = refl;
      many = omega (arith, h.many);
      falling = (le_refl (taken_time r.status.last t), falling_on r.status.last (taken_time r.status.last t) r.times (taken_later r.status.last t) h.falling);
      window = window_more r.status.window (taken_time r.status.last t) r.times (replicate 16 (whole_float 0)) h.window;
      current = refl;
    }

run_finishes : {r : Ran} (t : ℕ) → SoundRun r → SoundRun (ran (finish_at r.status t) (times_after r.status t r.times))
run_finishes {r} t h =
    let s = r.status in
    split (eqb s.running 0)
    (λ (e : eqb s.running 0 ≡ true).
    let z : s.running ≡ 0 = eqb-true s.running 0 e in
    subst (λ (x : Status). SoundRun (ran x (times_after s t r.times))) (sym (finish_ignored s t z)) (subst (λ (ts : List ℕ). SoundRun (ran s ts)) (sym (times_ignored s t r.times z)) h))
    (λ (e : eqb s.running 0 ≡ false).
    subst (λ (x : Status). SoundRun (ran x (times_after s t r.times))) (sym (finish_cases s t e))
    (subst (λ (ts : List ℕ). SoundRun (ran (finish_noted (moved_to (counting s s.started (s.running - 1) (s.finished + 1)) t)) ts)) (sym (times_cases s t r.times e))
    (run_noted {r = r} t h (subst SoundStatus (finish_cases s t e) (sound_finish t h.sound)))))

run_after : {r : Ran} (e : Event) → SoundRun r → SoundRun (after r e)
unfolding after
run_after {r} (starts t) h = run_starts {r = r} t h
run_after {r} (finishes t) h = run_finishes {r = r} t h
run_after {r} (prints t) h = run_prints {r = r} t h

run_all : (r : Ran) (es : List Event) → SoundRun r → SoundRun (after_all r es)
unfolding after_all
run_all r [] h = h
run_all r (e ∷ es) h = run_all (after r e) es (run_after {r = r} e h)

-- "started, running and finished never contradict one another along any sequence of events"
pub runs_sound : (total jobs : ℕ) (es : List Event) → SoundRun (status_after total jobs es)
unfolding status_after
runs_sound total jobs es = run_all (ran (first_status total jobs) []) es (run_first total jobs)

-- ---- `%o`
pub overall_near : {r : Ran} → SoundRun r → r.status.finished ≤ 2048 → 0 < r.status.last → KnownNear r.status.overall r.status.finished r.status.last
overall_near {r} h few from =
    let s = r.status in
    record {
      rate = div binary64 (whole_float s.finished) (seconds_of (whole_float s.last));
      known = h.overall ∙ rate_known s.finished s.last from h.sound.today;
      near = tenths_near s.finished s.last few from h.sound.today;
    }

pub overall_unknown : {r : Ran} → SoundRun r → r.status.last ≡ 0 → r.status.overall ≡ None
overall_unknown {r} h z = h.overall ∙ ap (λ (m : ℕ). rate_of r.status.finished (seconds_of (whole_float m))) z ∙ rate_none r.status.finished

-- ---- `%c`: n times count, from the newest at place 0 to the oldest at place n - 1
current_over : (w : List Float) (n : ℕ) → 0 < n → current_of w n ≡ rate_of n (seconds_of (sub binary64 (get_or w 0 nan) (get_or w (n - 1) nan)))
unfolding current_of
current_over w n h = rw (ne_eqb n 0 (λ (z : n ≡ 0). absurd (omega arith)))

module _ {r : Ran} (h : SoundRun r) (n : ℕ) (held : held_times r.status.jobs r.status.finished ≡ n) where
  few_held : (n ≤ 16) × (n ≤ length r.times)
  unfolding held_times
  few_held = (omega arith, omega (arith, h.many))

  pub current_none : n ≡ 0 → r.status.current ≡ None
  unfolding current_of
  current_none z = h.current ∙ ap (λ (k : ℕ). current_of r.status.window k) (held ∙ z)

  module _ (some : 0 < n) (last first : ℕ) (newest : get_or r.times 0 0 ≡ last) (oldest : get_or r.times (n - 1) 0 ≡ first) where
    order : first ≤ last
    order = le_trans (le_of_eq (sym oldest)) (le_trans (falling_first r.status.last r.times (n - 1) h.falling (omega (arith, few_held.1))) (le_of_eq newest))

    today : last ≤ day
    today = le_trans (le_of_eq (sym newest)) (le_trans (falling_below r.status.last r.times 0 h.falling (omega (arith, few_held.1))) h.sound.today)

    ends : sub binary64 (get_or r.status.window 0 nan) (get_or r.status.window (n - 1) nan) ≡ whole_float (last - first)
    ends =
        ap (λ (x : Float). sub binary64 x (get_or r.status.window (n - 1) nan))
        (window_entry r.status.window 0 r.times (replicate 16 (whole_float 0)) h.window (omega arith) (omega (arith, few_held.1)) ∙ ap whole_float newest)
        ∙ ap (λ (x : Float). sub binary64 (whole_float last) x)
        (window_entry r.status.window (n - 1) r.times (replicate 16 (whole_float 0)) h.window (omega (arith, few_held.0)) (omega (arith, few_held.1)) ∙ ap whole_float oldest)
        ∙ sub_whole last first order today

    spanned : r.status.current ≡ rate_of n (seconds_of (whole_float (last - first)))
    spanned = h.current ∙ ap (λ (k : ℕ). current_of r.status.window k) held ∙ current_over r.status.window n some ∙ ap (λ (x : Float). rate_of n (seconds_of x)) ends

    -- "unknown where equal"
    pub current_equal : first ≡ last → r.status.current ≡ None
    current_equal e = spanned ∙ ap (λ (m : ℕ). rate_of n (seconds_of (whole_float m))) (apart e) ∙ rate_none n
      where
        apart : first ≡ last → last - first ≡ 0
        apart q = omega arith

    pub current_near : first < last → KnownNear r.status.current n (last - first)
    current_near l =
        record {
          rate = div binary64 (whole_float n) (seconds_of (whole_float (last - first)));
          known = spanned ∙ rate_known n (last - first) (omega arith) (omega (arith, today));
          near = tenths_near n (last - first) (omega (arith, few_held.0)) (omega arith) (omega (arith, today));
        }
