-- `run_columns::fresh_job` meets its contract.
use mathlib.Core.Path.{ap₂}
use Rattle.run_rules.specs.Runner.{waiting_job}
use Rattle.run_columns.proofs.fresh_job.Goals as goal

pub returns : goal.returns
returns c = ap₂ waiting_job c.number_at.ensures c.number_at-2.ensures
