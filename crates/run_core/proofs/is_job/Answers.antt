-- `run_core::is_job` meets its contract.
use Rattle.run_core.proofs.Steps.{job_other, job_state}
use Rattle.run_core.proofs.is_job.Goals as goal

pub returns-then-j-s : goal.returns-then-j-s
returns-then-j-s c = job_other c.args.j _ c.args.state c.if-j-s.true

pub returns : goal.returns
returns c = job_state c.args.j _ c.args.state c.if-j-s.false
