-- `run_core::finish_of` meets its contract.
use Rattle.run_core.specs.Numbers.{jobs_in}
use Rattle.run_core.proofs.Steps.{finish_noted_law, finish_refused}
use Rattle.run_core.proofs.finish_of.Goals as goal

pub place_of-requires : goal.place_of-requires
place_of-requires c = tt

pub job_count-requires : goal.job_count-requires
job_count-requires c = tt

pub returns-then-place_of-job_count : goal.returns-then-place_of-job_count
returns-then-place_of-job_count c = finish_noted_law (jobs_in c.args.c.now) c.args.s c.place_of.ensures c.job_count.ensures c.if-place_of-job_count.true

pub returns : goal.returns
returns c = finish_refused (jobs_in c.args.c.now) c.args.s c.place_of.ensures c.job_count.ensures c.if-place_of-job_count.false
