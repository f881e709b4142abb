-- What the functions over the lent table promise of the answer, the table and the columns: t, cs are the table and the columns before it, t', cs' after it, r the answer.
-- Columns that are too short are a 1, and the table stays.
use Rattle.std.specs.Prelude.{ℕ, Bool, List, ◌++◌, ◌≡◌, leb, length, drop}
use Rattle.lists.specs.Tests.{if_b}
use Rattle.run_rules.specs.declared.Job.{Job}
use Rattle.run_rules.specs.Runner.{finish_of, after_finish, next_start}
use Rattle.run_core.specs.Passes.{start_answer}
use Rattle.run_columns.specs.declared.StartAsk.{StartAsk}
use Rattle.run_columns.specs.declared.Change.{Change}
use Rattle.run_columns.specs.Fresh.{fresh_table, fresh_number}
use Rattle.run_columns.specs.Columns.{enough, gathered}
use Rattle.run_columns.specs.Changes.{short_change, finish_change}
use Rattle.run_columns.specs.Chosen.{asked_given, start_change, started_table}

-- Of a fresh table of the steps ss with their pools ps: a table that is too short is a 1, and stays. What is behind the list's records stays too.
pub record Fresh (t : List Job) (ss ps : List ℕ) (r : ℕ) (t' : List Job) : Type 0 where
  pub says : r ≡ fresh_number (length t) (length ss)
  pub table : t' ≡ if_b (leb (length ss) (length t)) (λ _. fresh_table ss ps ++ drop (length ss) t) (λ _. t)

-- of a finish of step s, good or not
pub record Finished (t : List Job) (s : ℕ) (good : Bool) (cs : List ℕ) (r : Change) (t' : List Job) (cs' : List ℕ) : Type 0 where
  pub says : r ≡ if_b (enough (length t) cs) (λ _. finish_change t s good (finish_of t s)) (λ _. short_change (length t))
  pub table : t' ≡ if_b (enough (length t) cs) (λ _. after_finish t s good) (λ _. t)
  pub columns : cs' ≡ gathered t cs

-- of a start, with the rows of the graph, the depths of the pools and what is asked: the step that is named is the one that starts
pub record Started (t : List Job) (gs ds : List ℕ) (a : StartAsk) (cs : List ℕ) (r : Change) (t' : List Job) (cs' : List ℕ) : Type 0 where
  pub says : r ≡ if_b (enough (length t) cs) (λ _. start_change t (start_answer (next_start (asked_given gs ds a) a.load t))) (λ _. short_change (length t))
  pub table : t' ≡ if_b (enough (length t) cs) (λ _. started_table t (next_start (asked_given gs ds a) a.load t)) (λ _. t)
  pub columns : cs' ≡ gathered t cs
