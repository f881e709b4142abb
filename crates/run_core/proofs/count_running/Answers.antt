-- `run_core::count_running` meets its contract.
use Rattle.run_core.proofs.Steps.{count_begin, count_one, count_skip, count_end}
use borrow.Author.Rules.{rules}
use Rattle.run_core.proofs.count_running.Goals as goal
use Rattle.run_core.proofs.count_running.Goals.{then-j-eq1, else-j-eq1}

pub job_count-n-requires : goal.job_count-n-requires
job_count-n-requires c = tt

pub loop-i-init : goal.loop-i-init
loop-i-init c = count_begin

pub job_at-j-requires : goal.job_at-j-requires
job_at-j-requires c = rw c.job_count-n.ensures at c.loop-i-test.true

pub overflow_add-r : goal.overflow_add-r
overflow_add-r c = let f = c.loop-i.invariant.few in search rules

pub loop-i-preserved : goal.loop-i-preserved
loop-i-preserved c =
    elim c.if-j-eq1.branch [
      | then-j-eq1 w ↦ rw w.r-is (count_one c.loop-i.invariant c.loop-i-test.true c.job_count-n.ensures c.job_at-j.ensures w.if-j-eq1.true)
      | else-j-eq1 w ↦ rw w.r-is (count_skip c.loop-i.invariant c.loop-i-test.true c.job_count-n.ensures c.job_at-j.ensures w.if-j-eq1.false)
    ]

pub returns : goal.returns
returns c = count_end c.loop-i.invariant c.loop-i-test.false c.job_count-n.ensures
