-- The table and the graph as slices of numbers.
use Rattle.std.specs.Prelude.{ℕ, ◌+◌, ◌*◌, ◌/◌, ◌%◌, List, [], ◌∷◌, ◌++◌, eqb, ltb, get_or, Option, Float}
use Rattle.lists.specs.Tests.{if_b}
use Rattle.run_rules.specs.declared.Job.{Job}
use Rattle.run_rules.specs.Runner.{Given, waiting_job}

abbrev pub no_job : Job
no_job = waiting_job 0 0

-- step, pool and state of one record after another
unfoldable pub jobs_in : List ℕ → List Job
jobs_in [] = []
jobs_in (s ∷ []) = []
jobs_in (s ∷ p ∷ []) = []
jobs_in (s ∷ p ∷ a ∷ c) = record { step = s; pool = p; state = a } ∷ jobs_in c

unfoldable pub job_numbers : List Job → List ℕ
job_numbers [] = []
job_numbers (j ∷ t) = j.step ∷ j.pool ∷ j.state ∷ job_numbers t

-- The graph in rows: 2m for each step m that a step comes after directly, then 2s + 1 for that step s, whose row ends there. A row's steps stand in rows
-- before it, or have none. Only steps below n count. What is upstream of each step, from the row so far and the rows before it:
unfoldable pub rows_upstream : ℕ → List ℕ → List ℕ → (ℕ → List ℕ) → ℕ → List ℕ
rows_upstream n [] row up x = up x
rows_upstream n (v ∷ g) row up x =
    if_b (eqb (v % 2) 0)
    (λ _. rows_upstream n g (if_b (ltb (v / 2) n) (λ _. v / 2 ∷ up (v / 2) ++ row) (λ _. row)) up x)
    (λ _. rows_upstream n g [] (λ y. if_b (eqb y (v / 2)) (λ _. if_b (ltb y n) (λ _. row) (λ _. [])) (λ _. up y)) x)

unfoldable pub upstream_in : ℕ → List ℕ → ℕ → List ℕ
unfolding rows_upstream
upstream_in n g x = rows_upstream n g [] (λ y. []) x

-- what a run is given, as numbers: steps below n, rows, depths by pool
abbrev pub given_in : ℕ → List ℕ → List ℕ → ℕ → Option Float → Given
given_in n g depths limit gate = record { upstream = upstream_in n g; depth = λ p. get_or depths p 0; limit = limit; gate = gate }

-- the rows of an order, by what each of its steps comes after directly
unfoldable pub graph_row : List ℕ → ℕ → List ℕ
graph_row [] s = (s * 2 + 1) ∷ []
graph_row (m ∷ ms) s = (m * 2) ∷ graph_row ms s

unfoldable pub graph_rows : (ℕ → List ℕ) → List ℕ → List ℕ
unfolding graph_row
graph_rows before [] = []
graph_rows before (s ∷ l) = graph_row (before s) s ++ graph_rows before l
