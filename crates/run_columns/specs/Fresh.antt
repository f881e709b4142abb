-- A fresh table: a waiting record for each step of a list.
use Rattle.std.specs.Prelude.{ℕ, zero, suc, List, [], ◌∷◌, leb, set, get_or}
use Rattle.lists.specs.Tests.{if_b}
use Rattle.run_rules.specs.declared.Job.{Job}
use Rattle.run_rules.specs.Runner.{waiting_job}

-- each step with its pool; a step without one has the empty pool
unfoldable pub fresh_table : List ℕ → List ℕ → List Job
fresh_table [] ps = []
fresh_table (s ∷ ss) [] = waiting_job s 0 ∷ fresh_table ss []
fresh_table (s ∷ ss) (p ∷ ps) = waiting_job s p ∷ fresh_table ss ps

-- record i, and the first i records made
abbrev pub fresh_job : List ℕ → List ℕ → ℕ → Job
fresh_job ss ps i = waiting_job (get_or ss i 0) (get_or ps i 0)

unfoldable pub fresh_to : List ℕ → List ℕ → ℕ → List Job → List Job
fresh_to ss ps zero t = t
fresh_to ss ps (suc i) t = set (fresh_to ss ps i t) i (fresh_job ss ps i)

-- how many records are made of n steps where there is room for m, and "One too short for the list is a 1"
unfoldable pub fresh_count : ℕ → ℕ → ℕ
fresh_count m n = if_b (leb n m) (λ _. n) (λ _. 0)

unfoldable pub fresh_number : ℕ → ℕ → ℕ
fresh_number m n = if_b (leb n m) (λ _. 0) (λ _. 1)
