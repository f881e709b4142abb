-- `run_core::any_failed` meets its contract.
use Rattle.run_core.proofs.Steps.{seek_begin, seek_found, seek_more, seek_end}
use Rattle.run_core.proofs.any_failed.Goals as goal

pub job_count-n-requires : goal.job_count-n-requires
job_count-n-requires c = tt

pub loop-i-init : goal.loop-i-init
loop-i-init c = seek_begin

pub job_at-j-requires : goal.job_at-j-requires
job_at-j-requires c = rw c.job_count-n.ensures at c.loop-i-test.true

pub returns-then-j-eq3 : goal.returns-then-j-eq3
returns-then-j-eq3 c = seek_found c.loop-i.invariant c.loop-i-test.true c.job_count-n.ensures c.job_at-j.ensures c.if-j-eq3.true

pub loop-i-preserved : goal.loop-i-preserved
loop-i-preserved c = seek_more c.loop-i.invariant c.loop-i-test.true c.job_count-n.ensures c.job_at-j.ensures c.if-j-eq3.false

pub returns : goal.returns
returns c = seek_end c.loop-i.invariant c.loop-i-test.false c.job_count-n.ensures
