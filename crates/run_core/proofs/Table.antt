-- The records that numbers hold, by their places, and passes over them from the first to the last.
use Prim.Native.Nat.{ℕ, zero, suc, ◌+◌, ◌*◌, ◌/◌, ◌≤◌, ◌<◌}
use mathlib.Core.List.{List, [], ◌∷◌}
use mathlib.Core.Path.{◌≡◌, refl, sym, ap, ◌∙◌}
use native.Mathlib.Nat.{le_of_suc-le-suc, not-suc-le-zero}
use native.Mathlib.Omega.{arith}
use lib.ListN.{length, get_or, drop}
use lib.Seq.{drop-cons, drop-length}
use Rattle.run_rules.specs.declared.Job.{Job}
use Rattle.run_core.specs.Numbers.{no_job, jobs_in, job_numbers}

pub jobs_numbers : (t : List Job) → jobs_in (job_numbers t) ≡ t
unfolding jobs_in job_numbers
jobs_numbers [] = refl
jobs_numbers (j ∷ t) = ap (λ (r : List Job). j ∷ r) (jobs_numbers t)

pub jobs_length : (c : List ℕ) → length (jobs_in c) ≡ length c / 3
unfolding jobs_in
jobs_length [] = omega arith
jobs_length (s ∷ []) = omega arith
jobs_length (s ∷ p ∷ []) = omega arith
jobs_length (s ∷ p ∷ a ∷ c) = let h = jobs_length c in omega arith

pub jobs_low : (c : List ℕ) (i : ℕ) → i < length (jobs_in c) → i * 3 + 2 < length c
jobs_low c i h = let e = jobs_length c in omega arith

pub job_numbers_law : (c : List ℕ) (i : ℕ) → i < length (jobs_in c)
    → record { step = get_or c (i * 3) 0; pool = get_or c (i * 3 + 1) 0; state = get_or c (i * 3 + 2) 0 } ≡ get_or (jobs_in c) i no_job
unfolding jobs_in
job_numbers_law [] i h = absurd (not-suc-le-zero h)
job_numbers_law (s ∷ []) i h = absurd (not-suc-le-zero h)
job_numbers_law (s ∷ p ∷ []) i h = absurd (not-suc-le-zero h)
job_numbers_law (s ∷ p ∷ a ∷ c) zero h = refl
job_numbers_law (s ∷ p ∷ a ∷ c) (suc i) h =
    let x : suc i * 3 ≡ suc (suc (suc (i * 3))) = omega arith in
    let y : suc i * 3 + 1 ≡ suc (suc (suc (i * 3 + 1))) = omega arith in
    let z : suc i * 3 + 2 ≡ suc (suc (suc (i * 3 + 2))) = omega arith in
    rw (y, z, x) (job_numbers_law c i (le_of_suc-le-suc h))

-- A pass f over the records, at place i with y made so far: what is left ends as the whole does.
pub record PassedTo {A : Type 0} (f : List Job → A → A) (t : List Job) (x y : A) (i : ℕ) : Type 0 where
  pub within : i ≤ length t
  pub rest : f (drop i t) y ≡ f t x

module _ {A : Type 0} {f : List Job → A → A} {t : List Job} {x : A} where
  pub pass_begin : PassedTo f t x x 0
  pass_begin = record { within = omega arith; rest = refl }

  -- one record more, where f goes on with z
  pub pass_more : {y z : A} {i : ℕ} → PassedTo f t x y i → i < length t → f (get_or t i no_job ∷ drop (suc i) t) y ≡ f (drop (suc i) t) z → PassedTo f t x z (suc i)
  pass_more {y} {z} {i} h b e = record { within = b; rest = sym e ∙ ap (λ (r : List Job). f r y) (sym (drop-cons t i no_job b)) ∙ h.rest }

  pub pass_end : {y : A} {i : ℕ} → PassedTo f t x y i → length t ≤ i → f [] y ≡ y → y ≡ f t x
  pass_end {y} {i} h b e =
      let z : i ≡ length t = (let w = h.within in omega arith) in
      sym e ∙ ap (λ (r : List Job). f r y) (sym (drop-length t) ∙ ap (λ (k : ℕ). drop k t) (sym z)) ∙ h.rest
