-- `run_columns::finish_at` meets its contract.
use Rattle.run_columns.proofs.Answers.{finish_noted_law, finish_refused}
use Rattle.run_columns.proofs.finish_at.Goals as goal

pub returns-in-Ok : goal.returns-in-Ok
returns-in-Ok c = finish_noted_law _ _ _ c.finish_of.ensures c.in-Ok.is c.place_of.ensures c.end_state.ensures

pub returns-in-Err : goal.returns-in-Err
returns-in-Err c = finish_refused _ _ _ c.finish_of.ensures c.in-Err.is c.job_count.ensures c.no_change.ensures
