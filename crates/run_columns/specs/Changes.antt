-- What becomes of a table: the record that changes, and the answer.
use Rattle.std.specs.Prelude.{ℕ, Bool, cond, List, length, set, get_or, Result, Ok, Err}
use Rattle.lists.specs.Tests.{if_b}
use Rattle.run_rules.specs.declared.Job.{Job}
use Rattle.run_rules.specs.Runner.{turned, finish_of}
use Rattle.run_rules.specs.Places.{job_place}
use Rattle.run_core.specs.Numbers.{no_job}
use Rattle.run_columns.specs.declared.Change.{Change}
use Rattle.run_columns.specs.Columns.{enough, table_in}

-- the table with record i in state a; past the end `set` changes nothing
abbrev pub turned_at : List Job → ℕ → ℕ → List Job
turned_at t i a = set t i (turned a (get_or t i no_job))

abbrev pub changed : List Job → Change → List Job
changed t c = turned_at t c.place c.state

-- no record of n changes
abbrev pub no_change : ℕ → ℕ → ℕ → Change
no_change n number step = record { place = n; state = 0; number = number; step = step }

-- 1: the working columns are too short for the table
unfoldable pub short_change : ℕ → Change
short_change n = no_change n 1 0

-- ---- a finish
abbrev pub end_state : Bool → ℕ
end_state good = cond good 2 3

-- noted of step s, or refused
unfoldable pub finish_change : List Job → ℕ → Bool → Result Unit ℕ → Change
unfolding job_place
finish_change t s good (Ok tt) = record { place = job_place s 1 t; state = end_state good; number = 0; step = s }
finish_change t s good (Err k) = no_change (length t) 27 k

unfoldable pub finished_in : ℕ → List ℕ → ℕ → Bool → Change
unfolding enough table_in finish_of finish_change short_change
finished_in n cs s good = if_b (enough n cs) (λ _. finish_change (table_in n cs) s good (finish_of (table_in n cs) s)) (λ _. short_change n)
