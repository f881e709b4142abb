-- The answers by their cases, and the depths copied.
use Rattle.std.specs.Prelude.{Option, Some, None, Result, Ok, Err, Float}
use Prim.Native.Nat.{ℕ, suc, ◌+◌, ◌-◌, ◌*◌, ◌≤◌, ◌<◌}
use mathlib.Core.Bool.{Bool, true, false}
use mathlib.Core.List.{List, ◌++◌, append-nil}
use mathlib.Core.Path.{◌≡◌, refl, sym, ap, ◌∙◌}
use native.Mathlib.Nat.{zero-add}
use native.Mathlib.Numerals.{add-one}
use native.Mathlib.Omega.{arith}
use borrow.Author.Tests.{ltb-true, ltb-false}
use lib.Dec.{ltb}
use lib.ListN.{length, get_or, set, take, drop, length-append, get_or-append, get_or-eq_default}
use lib.Seq.{paste, paste-zero, paste-suc, length-paste, length-take-le, take-length, drop-length, get_or-take, get_or-append-add}
use Rattle.lists.specs.Tests.{split}
use Rattle.lists.specs.Fill.{zeros, length_zeros, get_or_zeros}
use Rattle.run_rules.specs.declared.Job.{Job}
use Rattle.run_rules.specs.Runner.{finish_of, next_start}
use Rattle.run_rules.specs.Places.{job_place}
use Rattle.run_core.specs.Numbers.{jobs_in, given_in}
use Rattle.run_core.specs.Passes.{start_answer}
use Rattle.run_columns.specs.declared.Change.{Change}
use Rattle.run_columns.specs.declared.StartAsk.{StartAsk}
use Rattle.run_columns.specs.Columns.{enough, table_in}
use Rattle.run_columns.specs.Changes.{no_change, short_change, end_state, finish_change, finished_in}
use Rattle.run_columns.specs.Chosen.{start_steps, start_pools, asked_gate, depths_of, asked_given, start_change, started_in}

-- ---- finish_at
module _ (t : List Job) (s : ℕ) (good : Bool) {f : Result Unit ℕ} (e : f ≡ finish_of t s) where
  pub finish_noted_law : {p w : ℕ} → f ≡ (Ok tt) → p ≡ job_place s 1 t → w ≡ end_state good → record { place = p; state = w; number = 0; step = s } ≡ finish_change t s good (finish_of t s)
  unfolding finish_change
  finish_noted_law d p w = rw (sym e ∙ d, p, w)

  pub finish_refused : {n k : ℕ} {r : Change} → f ≡ Err k → n ≡ length t → r ≡ no_change n 27 k → r ≡ finish_change t s good (finish_of t s)
  unfolding finish_change
  finish_refused d l h = rw (sym e ∙ d, ← l) h

-- ---- start_made
module _ (t : List Job) {f : Option ℕ} where
  pub start_none : {n : ℕ} {r : Change} → f ≡ None → n ≡ length t → r ≡ no_change n 0 0 → r ≡ start_change t f
  unfolding start_change
  start_none d l h = rw (d, ← l) h

  pub start_some : {p s : ℕ} → f ≡ Some s → p ≡ job_place s 0 t → record { place = p; state = 1; number = 0; step = s } ≡ start_change t f
  unfolding start_change
  start_some d p = rw (d, p)

-- ---- start_in, start_at
module _ (t : List Job) (gs : List ℕ) (a : StartAsk) {r : Change} where
  pub start_gated : {f : Option ℕ} {g : Option Float} (n : ℕ) (room : List ℕ) → r ≡ start_change t f → f ≡ start_answer (next_start (given_in n gs room a.limit g) a.load t) → g ≡ asked_gate a
      → r ≡ start_change t (start_answer (next_start (given_in n gs room a.limit (asked_gate a)) a.load t))
  start_gated n room e d q = e ∙ ap (start_change t) (d ∙ ap (λ (g : Option Float). start_answer (next_start (given_in n gs room a.limit g) a.load t)) q)

  pub start_spaced : (ds : List ℕ) {n k : ℕ} {room : List ℕ} → n ≡ start_steps → k ≡ start_pools → room ≡ depths_of ds k → r ≡ start_change t (start_answer (next_start (given_in n gs room a.limit (asked_gate a)) a.load t))
      → r ≡ start_change t (start_answer (next_start (asked_given gs ds a) a.load t))
  unfolding asked_given
  start_spaced ds {n} {k} {room} e d q h =
      h
      ∙ ap (λ (x : ℕ). start_change t (start_answer (next_start (given_in x gs room a.limit (asked_gate a)) a.load t))) e
      ∙ ap (λ (x : List ℕ). start_change t (start_answer (next_start (given_in start_steps gs x a.limit (asked_gate a)) a.load t))) (q ∙ ap (depths_of ds) d)

-- ---- finish_change, start_change
module _ (n : ℕ) (cs : List ℕ) {b : Bool} {r : Change} (e : b ≡ enough n cs) where
  pub finish_long : (s : ℕ) (good : Bool) → b ≡ true → r ≡ finish_change (jobs_in (take (n * 3) cs)) s good (finish_of (jobs_in (take (n * 3) cs)) s) → r ≡ finished_in n cs s good
  unfolding finished_in table_in
  finish_long s good d h = rw (sym e ∙ d) h

  pub finish_short : (s : ℕ) (good : Bool) → b ≡ false → r ≡ no_change n 1 0 → r ≡ finished_in n cs s good
  unfolding finished_in short_change
  finish_short s good d h = rw (sym e ∙ d) h

  pub start_long : (gs ds : List ℕ) (a : StartAsk) → b ≡ true → r ≡ start_change (jobs_in (take (n * 3) cs)) (start_answer (next_start (asked_given gs ds a) a.load (jobs_in (take (n * 3) cs)))) → r ≡ started_in n cs gs ds a
  unfolding started_in table_in
  start_long gs ds a d h = rw (sym e ∙ d) h

  pub start_short : (gs ds : List ℕ) (a : StartAsk) → b ≡ false → r ≡ no_change n 1 0 → r ≡ started_in n cs gs ds a
  unfolding started_in short_change
  start_short gs ds a d h = rw (sym e ∙ d) h

-- ---- copy_depths
depths_length : (ds : List ℕ) (n : ℕ) → length (depths_of ds n) ≡ n
unfolding depths_of
depths_length ds n = length-take-le n (ds ++ zeros n) (let h = length-append ds (zeros n) in let z = length_zeros n in omega arith)

depths_at : (ds : List ℕ) (n i : ℕ) → i < n → get_or (depths_of ds n) i 0 ≡ get_or ds i 0
unfolding depths_of
depths_at ds n i l =
    get_or-take n (ds ++ zeros n) i 0 l
    ∙ split (ltb i (length ds))
    (λ (e : ltb i (length ds) ≡ true). get_or-append ds (zeros n) 0 i (ltb-true i (length ds) e))
    (λ (e : ltb i (length ds) ≡ false).
    let h : length ds ≤ i = ltb-false i (length ds) e in
    let k : i ≡ length ds + (i - length ds) = omega (arith, h) in
    ap (λ (x : ℕ). get_or (ds ++ zeros n) x 0) k ∙ get_or-append-add ds (zeros n) (i - length ds) 0 ∙ get_or_zeros n (i - length ds) ∙ sym (get_or-eq_default ds 0 {n = i} h))

-- the first i depths are there
pub record DepthsTo (r₀ ds r : List ℕ) (i : ℕ) : Type 0 where
  pub within : i ≤ length r₀
  pub long : length r ≡ length r₀
  pub front : r ≡ paste r₀ 0 (depths_of ds (length r₀)) i

module _ {r₀ ds : List ℕ} where
  pub depths_begin : DepthsTo r₀ ds r₀ 0
  depths_begin = record { within = omega arith; long = refl; front = paste-zero r₀ 0 (depths_of ds (length r₀)) }

  pub depths_more : {r : List ℕ} {i v : ℕ} → DepthsTo r₀ ds r i → i < length r → v ≡ get_or ds i 0 → DepthsTo r₀ ds (set r i v) (i + 1)
  depths_more {r} {i} {v} h l e =
      let n = length r₀ in
      let d = depths_of ds n in
      let low : i < n = (let w = h.long in omega (arith, l, w)) in
      let low₀ : 0 + i < n = (let z = zero-add i in omega (arith, low, z)) in
      let lowd : i < length d = (let z = depths_length ds n in omega (arith, low, z)) in
      let is : set r i v ≡ paste r₀ 0 d (suc i) =
      ap (λ (x : List ℕ). set x i v) h.front ∙ ap (λ (x : ℕ). set (paste r₀ 0 d i) i x) (e ∙ sym (depths_at ds n i low)) ∙ ap (λ (x : ℕ). set (paste r₀ 0 d i) x (get_or d i 0)) (sym (zero-add i)) ∙ paste-suc r₀ 0 d i 0 low₀ lowd in
      rw (add-one i)
      (record {
        within = low;
        long = ap length is ∙ length-paste r₀ 0 d (suc i) (let z = zero-add (suc i) in omega (arith, low, z)) lowd;
        front = is;
      })

  pub depths_end : {r : List ℕ} {i : ℕ} → DepthsTo r₀ ds r i → length r ≤ i → r ≡ depths_of ds (length r₀)
  depths_end {r} {i} h l =
      let n = length r₀ in
      let d = depths_of ds n in
      let z : i ≡ n = (let w = h.within in let v = h.long in omega (arith, l, w, v)) in
      h.front
      ∙ ap (λ (x : ℕ). paste r₀ 0 d x) z
      ∙ ap (λ (x : ℕ). take x d ++ drop (0 + n) r₀) (sym (depths_length ds n))
      ∙ ap (λ (x : List ℕ). x ++ drop (0 + n) r₀) (take-length d)
      ∙ ap (λ (x : ℕ). d ++ drop x r₀) (zero-add n)
      ∙ ap (λ (x : List ℕ). d ++ x) (drop-length r₀)
      ∙ append-nil d
