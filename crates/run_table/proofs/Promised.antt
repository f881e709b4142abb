-- The promises, from what was decided on the gathered columns.
use Prim.Native.Nat.{ℕ}
use mathlib.Core.Bool.{Bool, true, false}
use mathlib.Core.List.{List}
use mathlib.Core.Path.{◌≡◌, refl, ap, ◌∙◌}
use lib.ListN.{length}
use Rattle.lists.specs.Tests.{if_b, split}
use Rattle.run_rules.specs.declared.Job.{Job}
use Rattle.run_columns.specs.declared.Change.{Change}
use Rattle.run_rules.specs.Runner.{finish_of, next_start}
use Rattle.run_core.specs.Passes.{start_answer}
use Rattle.run_columns.specs.Columns.{enough, gathered}
use Rattle.run_columns.specs.Changes.{turned_at, changed, short_change, finish_change, finished_in}
use Rattle.run_columns.specs.Chosen.{asked_given, start_change, started_in}
use Rattle.run_columns.specs.Fresh.{fresh_to, fresh_count, fresh_number}
use Rattle.run_columns.proofs.Made.{fresh_made}
use Rattle.run_columns.proofs.Changes.{finish_table, start_table, short_table, finished_gathered, started_gathered}
use Rattle.run_columns.specs.declared.StartAsk.{StartAsk}
use Rattle.run_table.specs.Promises.{Fresh, Finished, Started}

pub fresh_promised : (t : List Job) (ss ps : List ℕ) → Fresh t ss ps (fresh_number (length t) (length ss)) (fresh_to ss ps (fresh_count (length t) (length ss)) t)
fresh_promised t ss ps = record { says = refl; table = fresh_made ss ps t }

-- the table with a change, or the table itself where the columns are too short
by_room : (t : List Job) (cs : List ℕ) (c : Change) {u : List Job} → changed t c ≡ u
    → changed t (if_b (enough (length t) cs) (λ _. c) (λ _. short_change (length t))) ≡ if_b (enough (length t) cs) (λ _. u) (λ _. t)
by_room t cs c h =
    split (enough (length t) cs)
    (λ (e : enough (length t) cs ≡ true). rw e h)
    (λ (e : enough (length t) cs ≡ false). rw e (short_table t))

pub finished : (t : List Job) (s : ℕ) (good : Bool) (cs : List ℕ)
    → Finished t s good cs (finished_in (length t) (gathered t cs) s good) (changed t (finished_in (length t) (gathered t cs) s good)) (gathered t cs)
finished t s good cs =
    record {
      says = finished_gathered t cs s good;
      table = ap (λ (c : Change). changed t c) (finished_gathered t cs s good) ∙ by_room t cs (finish_change t s good (finish_of t s)) (finish_table t s good);
      columns = refl;
    }

pub started : (t : List Job) (gs ds : List ℕ) (a : StartAsk) (cs : List ℕ)
    → Started t gs ds a cs (started_in (length t) (gathered t cs) gs ds a) (changed t (started_in (length t) (gathered t cs) gs ds a)) (gathered t cs)
started t gs ds a cs =
    let o = next_start (asked_given gs ds a) a.load t in
    record {
      says = started_gathered t cs gs ds a;
      table = ap (λ (c : Change). changed t c) (started_gathered t cs gs ds a) ∙ by_room t cs (start_change t (start_answer o)) (start_table t o);
      columns = refl;
    }

-- the same, of what the calls of a finish and of a start answer
module _ {t t' : List Job} {cs cs' : List ℕ} {r : Change} {i state : ℕ} (columns : cs' ≡ gathered t cs) (place : i ≡ r.place) (turns : state ≡ r.state) (table : t' ≡ turned_at t i state) where
  pub finished_by : {s : ℕ} {good : Bool} → r ≡ finished_in (length t) cs' s good → Finished t s good cs r t' cs'
  finished_by {s} {good} e = rw (table, place, turns, e, columns) (finished t s good cs)

  pub started_by : {gs ds : List ℕ} {a : StartAsk} → r ≡ started_in (length t) cs' gs ds a → Started t gs ds a cs r t' cs'
  started_by {gs} {ds} {a} e = rw (table, place, turns, e, columns) (started t gs ds a cs)
