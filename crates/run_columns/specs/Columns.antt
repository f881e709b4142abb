-- The table as numbers, in the front of the lent columns: step, pool and state of one record after another, as `run_core` reads them.
use Rattle.std.specs.Prelude.{ℕ, zero, suc, ◌+◌, ◌*◌, ◌/◌, Bool, List, leb, length, set, get_or, take}
use Rattle.lists.specs.Tests.{if_b}
use Rattle.run_rules.specs.declared.Job.{Job}
use Rattle.run_core.specs.Numbers.{jobs_in, no_job}

-- are the columns long enough for n records
unfoldable pub enough : ℕ → List ℕ → Bool
enough n cs = leb n (length cs / 3)

-- n records
unfoldable pub table_in : ℕ → List ℕ → List Job
unfolding jobs_in
table_in n cs = jobs_in (take (n * 3) cs)

-- one record noted, and the first i records of a table noted; columns that are too short stay as they are
unfoldable pub stored_at : List ℕ → ℕ → Job → List ℕ
stored_at cs i j = set (set (set cs (i * 3) j.step) (i * 3 + 1) j.pool) (i * 3 + 2) j.state

unfoldable pub note_at : ℕ → List ℕ → ℕ → Job → List ℕ
unfolding enough stored_at
note_at n cs i j = if_b (enough n cs) (λ _. stored_at cs i j) (λ _. cs)

unfoldable pub noted_to : List Job → ℕ → List ℕ → List ℕ
unfolding note_at
noted_to t zero cs = cs
noted_to t (suc i) cs = note_at (length t) (noted_to t i cs) i (get_or t i no_job)

abbrev pub gathered : List Job → List ℕ → List ℕ
gathered t cs = noted_to t (length t) cs
