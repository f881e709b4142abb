-- `run_columns::start_made` meets its contract.
use Rattle.run_columns.proofs.Answers.{start_none, start_some}
use Rattle.run_columns.proofs.start_made.Goals as goal

pub returns-in-None : goal.returns-in-None
returns-in-None c = start_none _ c.in-None.is c.job_count.ensures c.no_change.ensures

pub returns-in-Some : goal.returns-in-Some
returns-in-Some c = start_some _ c.in-Some.is c.place_of.ensures
