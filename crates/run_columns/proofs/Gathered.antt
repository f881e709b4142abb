-- Columns that are long enough hold the table that was noted in them.
use Prim.Native.Nat.{ℕ, zero, suc, ◌+◌, ◌*◌, ◌≤◌, ◌<◌}
use mathlib.Core.Bool.{true}
use mathlib.Core.List.{List, [], ◌∷◌, ◌++◌, append_assoc}
use mathlib.Core.Path.{◌≡◌, refl, sym, ap, ◌∙◌}
use native.Mathlib.Omega.{arith}
use lib.ListN.{length, get_or, take, set, length-set}
use lib.Seq.{take-suc, take-suc-set, take-length}
use Rattle.run_rules.specs.declared.Job.{Job}
use Rattle.run_core.specs.Numbers.{jobs_in, job_numbers, no_job}
use Rattle.run_core.proofs.Table.{jobs_numbers}
use Rattle.run_columns.specs.Columns.{enough, table_in, stored_at, note_at, noted_to, gathered}
use Rattle.run_columns.proofs.Tables.{enough_same, row_room, noted_length}

-- one record stored: the numbers before it, and its own
stored_front : (cs : List ℕ) (i : ℕ) (j : Job) → i * 3 + 2 < length cs → take (suc i * 3) (stored_at cs i j) ≡ take (i * 3) cs ++ (j.step ∷ j.pool ∷ j.state ∷ [])
unfolding stored_at
stored_front cs i j l =
    let a = set cs (i * 3) j.step in
    let b = set a (i * 3 + 1) j.pool in
    let x : suc i * 3 ≡ suc (i * 3 + 2) = omega arith in
    let y : i * 3 + 2 ≡ suc (i * 3 + 1) = omega arith in
    let z : i * 3 + 1 ≡ suc (i * 3) = omega arith in
    let lb : i * 3 + 2 < length b = simp length-set l in
    let la : i * 3 + 1 < length a = simp length-set (omega (arith, l)) in
    ap (λ (k : ℕ). take k (set b (i * 3 + 2) j.state)) x
    ∙ take-suc-set b (i * 3 + 2) j.state lb
    ∙ ap (λ (r : List ℕ). r ++ (j.state ∷ []))
    (ap (λ (k : ℕ). take k b) y
    ∙ take-suc-set a (i * 3 + 1) j.pool la
    ∙ ap (λ (r : List ℕ). r ++ (j.pool ∷ [])) (ap (λ (k : ℕ). take k a) z ∙ take-suc-set cs (i * 3) j.step (omega (arith, l))))
    ∙ append_assoc (take (i * 3) cs ++ (j.step ∷ [])) (j.pool ∷ []) (j.state ∷ [])
    ∙ append_assoc (take (i * 3) cs) (j.step ∷ []) (j.pool ∷ j.state ∷ [])

numbers_snoc : (t : List Job) (j : Job) → job_numbers (t ++ (j ∷ [])) ≡ job_numbers t ++ (j.step ∷ j.pool ∷ j.state ∷ [])
unfolding job_numbers
numbers_snoc [] j = refl
numbers_snoc (k ∷ t) j = ap (λ (r : List ℕ). k.step ∷ k.pool ∷ k.state ∷ r) (numbers_snoc t j)

-- the first i records, noted
noted_front : (t : List Job) (cs : List ℕ) → enough (length t) cs ≡ true → (i : ℕ) → i ≤ length t → take (i * 3) (noted_to t i cs) ≡ job_numbers (take i t)
unfolding noted_to note_at job_numbers
noted_front t cs e zero l = refl
noted_front t cs e (suc i) l =
    let n = length t in
    let e' : enough n (noted_to t i cs) ≡ true = enough_same n (noted_to t i cs) cs (noted_length t i cs) ∙ e in
    rw e'
    (stored_front (noted_to t i cs) i (get_or t i no_job) (row_room n i (noted_to t i cs) e' l)
    ∙ ap (λ (r : List ℕ). r ++ ((get_or t i no_job).step ∷ (get_or t i no_job).pool ∷ (get_or t i no_job).state ∷ [])) (noted_front t cs e i (omega (arith, l)))
    ∙ sym (ap job_numbers (take-suc t i no_job l) ∙ numbers_snoc (take i t) (get_or t i no_job)))

pub table_gathered : (t : List Job) (cs : List ℕ) → enough (length t) cs ≡ true → table_in (length t) (gathered t cs) ≡ t
unfolding table_in
table_gathered t cs e = ap jobs_in (noted_front t cs e (length t) (omega arith) ∙ ap job_numbers (take-length t)) ∙ jobs_numbers t
