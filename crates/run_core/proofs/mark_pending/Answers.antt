-- `run_core::mark_pending` meets its contract.
use Rattle.run_core.proofs.Table.{pass_begin}
use Rattle.run_core.proofs.Steps.{mark_more, mark_end, mark_long}
use Rattle.run_core.proofs.mark_pending.Goals as goal

pub job_count-n-requires : goal.job_count-n-requires
job_count-n-requires c = tt

pub loop-i-init : goal.loop-i-init
loop-i-init c = pass_begin

pub job_at-requires : goal.job_at-requires
job_at-requires c = rw c.job_count-n.ensures at c.loop-i-test.true

pub mark_job-requires : goal.mark_job-requires
mark_job-requires c = tt

pub loop-i-preserved : goal.loop-i-preserved
loop-i-preserved c = mark_more c.loop-i.invariant c.loop-i-test.true c.job_count-n.ensures c.job_at.ensures c.mark_job.ensures

pub shape_of-marks : goal.shape_of-marks
shape_of-marks c = mark_long c.loop-i.invariant

pub returns : goal.returns
returns c = mark_end c.loop-i.invariant c.loop-i-test.false c.job_count-n.ensures
