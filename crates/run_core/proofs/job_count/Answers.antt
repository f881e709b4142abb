-- `run_core::job_count` meets its contract.
use mathlib.Core.Path.{sym}
use Rattle.run_core.proofs.Table.{jobs_length}
use Rattle.run_core.proofs.job_count.Goals as goal

pub returns : goal.returns
returns c = sym (jobs_length _)
