-- The loops over the lent table: what is made and noted after i turns.
use Rattle.std.proofs.Common.{ℕ, ◌+◌, ◌≤◌, ◌<◌, ◌≡◌, refl, ap, ◌∙◌, List, length}
use native.Mathlib.Omega.{arith}
use Rattle.std.proofs.Common.{add-one}
use lib.ListN.{get_or, set}
use Rattle.run_rules.specs.declared.Job.{Job}
use Rattle.run_core.specs.Numbers.{no_job}
use Rattle.run_columns.specs.Columns.{note_at, noted_to}
use Rattle.run_columns.specs.Fresh.{fresh_job, fresh_to, fresh_count, fresh_number}
use Rattle.run_columns.proofs.Made.{fresh_length, count_fits}
use Rattle.run_table.specs.Promises.{Fresh}
use Rattle.run_table.proofs.Promised.{fresh_promised}

-- the first i records of t noted in the columns cs
pub record Noting (t : List Job) (cs now : List ℕ) (i : ℕ) : Type 0 where
  pub noted : now ≡ noted_to t i cs
  pub within : i ≤ length t

module _ {t : List Job} {cs : List ℕ} where
  pub noting_begin : Noting t cs cs 0
  unfolding noted_to
  noting_begin = record { noted = refl; within = omega arith }

  pub noting_more : {now now' : List ℕ} {i : ℕ} → Noting t cs now i → i < length t → now' ≡ note_at (length t) now i (get_or t i no_job) → Noting t cs now' (i + 1)
  unfolding noted_to
  noting_more {now} {now'} {i} h l e =
      rw (add-one i)
      (record { noted = e ∙ ap (λ (x : List ℕ). note_at (length t) x i (get_or t i no_job)) h.noted; within = l })

-- the first i of n records made in the table t
pub record Filling (ss ps : List ℕ) (n : ℕ) (t now : List Job) (i : ℕ) : Type 0 where
  pub made : now ≡ fresh_to ss ps i t
  pub within : i ≤ n

module _ {ss ps : List ℕ} {n : ℕ} {t : List Job} where
  pub filling_begin : Filling ss ps n t t 0
  unfolding fresh_to
  filling_begin = record { made = refl; within = omega arith }

  pub filling_more : {now : List Job} {i : ℕ} {j : Job} → Filling ss ps n t now i → i < n → j ≡ fresh_job ss ps i → Filling ss ps n t (set now i j) (i + 1)
  unfolding fresh_to
  filling_more {now} {i} {j} h l e =
      rw (add-one i)
      (record { made = ap (λ (x : List Job). set x i j) h.made ∙ ap (λ (x : Job). set (fresh_to ss ps i t) i x) e; within = l })

  -- a place that is still to be made is in the table
  pub filling_inside : {now : List Job} {i : ℕ} → Filling ss ps n t now i → n ≡ fresh_count (length t) (length ss) → i < n → i < length now
  filling_inside {now} {i} h e l =
      let a = ap length h.made ∙ fresh_length ss ps i t in
      let b = count_fits (length t) (length ss) in
      omega (arith, l, e, a, b)

  pub filling_end : {now : List Job} {i r : ℕ} → Filling ss ps n t now i → n ≡ fresh_count (length t) (length ss) → n ≤ i → r ≡ fresh_number (length t) (length ss) → Fresh t ss ps r now
  filling_end {now} {i} {r} h e l q =
      let k : i ≡ fresh_count (length t) (length ss) = (let w = h.within in omega (arith, l, e, w)) in
      rw (q, h.made, k) (fresh_promised t ss ps)
