-- What a start makes of a table: which step starts, with what it is asked and lent.
use Rattle.std.specs.Prelude.{ℕ, List, ◌++◌, length, take, Option as StdOption, Some, None, Float}
use Rattle.std.proofs.Math.Option.{Option, none, some}
use Rattle.lists.specs.Tests.{if_b}
use Rattle.lists.specs.Fill.{zeros}
use Rattle.run_rules.specs.declared.Job.{Job}
use Rattle.run_rules.specs.Runner.{Given, next_start, after_start}
use Rattle.run_rules.specs.Places.{job_place}
use Rattle.run_core.specs.Numbers.{given_in}
use Rattle.run_core.specs.Passes.{start_answer}
use Rattle.run_columns.specs.declared.Change.{Change}
use Rattle.run_columns.specs.declared.StartAsk.{StartAsk}
use Rattle.run_columns.specs.Columns.{enough, table_in}
use Rattle.run_columns.specs.Changes.{no_change, short_change}

-- How many steps and pools count: all that a plan can have (request [7]), and 64 pools beside `console` and the empty one.
abbrev pub start_steps : ℕ
start_steps = 2048

abbrev pub start_pools : ℕ
start_pools = 66

-- "The load gate is off, or a highest load as a float"
unfoldable pub asked_gate : StartAsk → StdOption Float
asked_gate a = if_b a.gated (λ _. Some a.highest) (λ _. None)

-- the depths of n pools; a pool without one has 0
unfoldable pub depths_of : List ℕ → ℕ → List ℕ
depths_of ds n = take n (ds ++ zeros n)

-- what a start is given: rows, depths, and what is asked
unfoldable pub asked_given : List ℕ → List ℕ → StartAsk → Given
unfolding asked_gate depths_of
asked_given gs ds a = given_in start_steps gs (depths_of ds start_pools) a.limit (asked_gate a)

-- a step starts, or none: then no record changes
unfoldable pub start_change : List Job → StdOption ℕ → Change
unfolding job_place
start_change t None = no_change (length t) 0 0
start_change t (Some s) = record { place = job_place s 0 t; state = 1; number = 0; step = s }

unfoldable pub started_table : List Job → Option ℕ → List Job
unfolding after_start
started_table t none = t
started_table t (some s) = after_start t s

unfoldable pub started_in : ℕ → List ℕ → List ℕ → List ℕ → StartAsk → Change
unfolding enough table_in start_answer next_start asked_given start_change short_change
started_in n cs gs ds a = if_b (enough n cs) (λ _. start_change (table_in n cs) (start_answer (next_start (asked_given gs ds a) a.load (table_in n cs)))) (λ _. short_change n)
