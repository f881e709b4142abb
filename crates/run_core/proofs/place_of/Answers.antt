-- `run_core::place_of` meets its contract.
use mathlib.Core.Path.{◌∙◌}
use native.Mathlib.Nat.{le_antisymm}
use Rattle.run_core.proofs.Steps.{place_begin, place_found, place_more, place_end}
use Rattle.run_core.proofs.place_of.Goals as goal

pub job_count-n-requires : goal.job_count-n-requires
job_count-n-requires c = tt

pub loop-i-init : goal.loop-i-init
loop-i-init c = place_begin

pub job_at-requires : goal.job_at-requires
job_at-requires c = rw c.job_count-n.ensures at c.loop-i-test.true

pub is_job-requires : goal.is_job-requires
is_job-requires c = tt

pub returns-then-is_job : goal.returns-then-is_job
returns-then-is_job c = place_found c.loop-i.invariant c.loop-i-test.true c.job_count-n.ensures c.job_at.ensures c.is_job.ensures c.if-is_job.true

pub loop-i-preserved : goal.loop-i-preserved
loop-i-preserved c = place_more c.loop-i.invariant c.loop-i-test.true c.job_count-n.ensures c.job_at.ensures c.is_job.ensures c.if-is_job.false

pub returns : goal.returns
returns c = le_antisymm c.loop-i-test.false c.loop-i.auto.i-end ∙ place_end c.loop-i.invariant c.loop-i-test.false c.job_count-n.ensures
