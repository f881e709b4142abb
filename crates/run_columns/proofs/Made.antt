-- The fresh table made record by record.
use Prim.Native.Nat.{ℕ, zero, suc, ◌+◌, ◌≤◌, ◌<◌}
use mathlib.Core.Bool.{true, false}
use mathlib.Core.List.{List, [], ◌∷◌, ◌++◌}
use mathlib.Core.Path.{◌≡◌, refl, sym, ap, ◌∙◌}
use native.Mathlib.Nat.{zero-add, le_of_suc-le-suc, not-suc-le-zero}
use native.Mathlib.Omega.{arith}
use borrow.Author.Tests.{leb-true}
use lib.Dec.{leb}
use lib.ListN.{length, get_or, set, take, drop, length-set}
use lib.Seq.{paste, paste-zero, paste-suc, take-length}
use Rattle.lists.specs.Tests.{if_b, split}
use Rattle.run_rules.specs.declared.Job.{Job}
use Rattle.run_rules.specs.Claims.{◌among◌, first, later, steps_of}
use Rattle.run_core.specs.Numbers.{no_job}
use Rattle.run_columns.specs.Fresh.{fresh_table, fresh_job, fresh_to, fresh_count}

pub fresh_length : (ss ps : List ℕ) (i : ℕ) (t : List Job) → length (fresh_to ss ps i t) ≡ length t
unfolding fresh_to
fresh_length ss ps zero t = refl
fresh_length ss ps (suc i) t = length-set (fresh_to ss ps i t) i (fresh_job ss ps i) ∙ fresh_length ss ps i t

-- the records' steps are the list, and all wait
pub fresh_steps : (ss ps : List ℕ) → steps_of (fresh_table ss ps) ≡ ss
unfolding fresh_table
fresh_steps [] ps = refl
fresh_steps (s ∷ ss) [] = ap (λ (r : List ℕ). s ∷ r) (fresh_steps ss [])
fresh_steps (s ∷ ss) (p ∷ ps) = ap (λ (r : List ℕ). s ∷ r) (fresh_steps ss ps)

pub fresh_waits : (ss ps : List ℕ) (j : Job) → j among fresh_table ss ps → j.state ≡ 0
unfolding fresh_table
fresh_waits [] ps j h = elim h [ ]
fresh_waits (s ∷ ss) [] j (first e) = ap (λ (k : Job). k.state) e
fresh_waits (s ∷ ss) [] j (later h) = fresh_waits ss [] j h
fresh_waits (s ∷ ss) (p ∷ ps) j (first e) = ap (λ (k : Job). k.state) e
fresh_waits (s ∷ ss) (p ∷ ps) j (later h) = fresh_waits ss ps j h

pub fresh_table_length : (ss ps : List ℕ) → length (fresh_table ss ps) ≡ length ss
unfolding fresh_table
fresh_table_length [] ps = refl
fresh_table_length (s ∷ ss) [] = ap suc (fresh_table_length ss [])
fresh_table_length (s ∷ ss) (p ∷ ps) = ap suc (fresh_table_length ss ps)

table_at : (ss ps : List ℕ) (i : ℕ) → i < length ss → get_or (fresh_table ss ps) i no_job ≡ fresh_job ss ps i
unfolding fresh_table
table_at [] ps i l = absurd (not-suc-le-zero l)
table_at (s ∷ ss) [] zero l = refl
table_at (s ∷ ss) [] (suc i) l = table_at ss [] i (le_of_suc-le-suc l)
table_at (s ∷ ss) (p ∷ ps) zero l = refl
table_at (s ∷ ss) (p ∷ ps) (suc i) l = table_at ss ps i (le_of_suc-le-suc l)

-- the first i of them
fresh_front : (ss ps : List ℕ) (t : List Job) → length ss ≤ length t → (i : ℕ) → i ≤ length ss → fresh_to ss ps i t ≡ paste t 0 (fresh_table ss ps) i
unfolding fresh_to
fresh_front ss ps t l zero b = paste-zero t 0 (fresh_table ss ps)
fresh_front ss ps t l (suc i) b =
    let f = fresh_table ss ps in
    let z = zero-add i in
    let n = fresh_table_length ss ps in
    ap (λ (x : List Job). set x i (fresh_job ss ps i)) (fresh_front ss ps t l i (omega (arith, b)))
    ∙ ap (λ (j : Job). set (paste t 0 f i) i j) (sym (table_at ss ps i b))
    ∙ ap (λ (k : ℕ). set (paste t 0 f i) k (get_or f i no_job)) (sym z)
    ∙ paste-suc t 0 f i no_job (omega (arith, z, b, l)) (omega (arith, n, b))

-- All records made, or none: the table's front is the fresh table, and what is behind it stays.
pub fresh_made : (ss ps : List ℕ) (t : List Job)
    → fresh_to ss ps (fresh_count (length t) (length ss)) t ≡ if_b (leb (length ss) (length t)) (λ _. fresh_table ss ps ++ drop (length ss) t) (λ _. t)
unfolding fresh_count fresh_to
fresh_made ss ps t =
    let f = fresh_table ss ps in
    split (leb (length ss) (length t))
    (λ (e : leb (length ss) (length t) ≡ true).
    rw e
    (fresh_front ss ps t (leb-true (length ss) (length t) e) (length ss) (omega arith)
    ∙ ap (λ (k : ℕ). take k f ++ drop (0 + length ss) t) (sym (fresh_table_length ss ps))
    ∙ ap (λ (x : List Job). x ++ drop (0 + length ss) t) (take-length f)
    ∙ ap (λ (k : ℕ). f ++ drop k t) (zero-add (length ss))))
    (λ (e : leb (length ss) (length t) ≡ false). rw e)

pub count_fits : (m n : ℕ) → fresh_count m n ≤ m
unfolding fresh_count
count_fits m n =
    split (leb n m)
    (λ (e : leb n m ≡ true). rw e (leb-true n m e))
    (λ (e : leb n m ≡ false). rw e (omega arith))
