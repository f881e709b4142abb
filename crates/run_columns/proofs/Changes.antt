-- The changes make the rules' tables, and what is decided on gathered columns is decided on the table.
use Prim.Native.Nat.{ℕ}
use mathlib.Core.Bool.{Bool, true, false}
use mathlib.Core.List.{List}
use mathlib.Core.Option.{Option, none, some}
use mathlib.Core.Path.{◌≡◌, sym, ◌∙◌}
use native.Mathlib.Omega.{arith}
use lib.ListN.{length, get_or}
use lib.Seq.{set_out}
use Rattle.lists.specs.Tests.{if_b, split}
use Rattle.run_rules.specs.declared.Job.{Job}
use Rattle.run_rules.specs.Runner.{turned, job_is, finish_of, after_finish, next_start, after_start}
use Rattle.run_rules.specs.Places.{moved_set}
use Rattle.run_rules.proofs.Moved.{moved_none}
use Rattle.run_core.specs.Numbers.{no_job}
use Rattle.run_core.specs.Passes.{start_answer}
use Rattle.lists.specs.Members.{any}
use Rattle.run_columns.specs.declared.StartAsk.{StartAsk}
use Rattle.run_columns.specs.Columns.{enough, gathered}
use Rattle.run_columns.specs.Changes.{changed, turned_at, short_change, end_state, finish_change, finished_in}
use Rattle.run_columns.specs.Chosen.{asked_given, start_change, started_table, started_in}
use Rattle.run_columns.proofs.Tables.{enough_same, noted_length}
use Rattle.run_columns.proofs.Gathered.{table_gathered}

-- no record stands past the end
past_end : (t : List Job) (a : ℕ) → turned_at t (length t) a ≡ t
past_end t a = set_out t (length t) (turned a (get_or t (length t) no_job)) (omega arith)

pub short_table : (t : List Job) → changed t (short_change (length t)) ≡ t
unfolding short_change
short_table t = past_end t 0

pub finish_table : (t : List Job) (s : ℕ) (good : Bool) → changed t (finish_change t s good (finish_of t s)) ≡ after_finish t s good
unfolding finish_of finish_change after_finish
finish_table t s good =
    split (any (job_is s 1) t)
    (λ (e : any (job_is s 1) t ≡ true). rw e (sym (moved_set s 1 (end_state good) t no_job)))
    (λ (e : any (job_is s 1) t ≡ false). rw e (past_end t 0 ∙ sym (moved_none s 1 (end_state good) t e)))

pub start_table : (t : List Job) (o : Option ℕ) → changed t (start_change t (start_answer o)) ≡ started_table t o
unfolding start_answer start_change started_table after_start
start_table t none = past_end t 0
start_table t (some s) = sym (moved_set s 0 1 t no_job)

module _ (t : List Job) (cs : List ℕ) where
  same : enough (length t) (gathered t cs) ≡ enough (length t) cs
  same = enough_same (length t) (gathered t cs) cs (noted_length t (length t) cs)

  pub finished_gathered : (s : ℕ) (good : Bool)
      → finished_in (length t) (gathered t cs) s good ≡ if_b (enough (length t) cs) (λ _. finish_change t s good (finish_of t s)) (λ _. short_change (length t))
  unfolding finished_in
  finished_gathered s good =
      split (enough (length t) cs)
      (λ (e : enough (length t) cs ≡ true). rw (same, e, table_gathered t cs e))
      (λ (e : enough (length t) cs ≡ false). rw (same, e))

  pub started_gathered : (gs ds : List ℕ) (a : StartAsk)
      → started_in (length t) (gathered t cs) gs ds a ≡ if_b (enough (length t) cs) (λ _. start_change t (start_answer (next_start (asked_given gs ds a) a.load t))) (λ _. short_change (length t))
  unfolding started_in
  started_gathered gs ds a =
      split (enough (length t) cs)
      (λ (e : enough (length t) cs ≡ true). rw (same, e, table_gathered t cs e))
      (λ (e : enough (length t) cs ≡ false). rw (same, e))
