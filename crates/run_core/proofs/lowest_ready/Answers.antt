-- `run_core::lowest_ready` meets its contract.
use native.Mathlib.Omega.{arith}
use Rattle.run_core.proofs.Deciding.{look_begin, look_more, look_end}
use Rattle.run_core.proofs.lowest_ready.Goals as goal

pub job_count-n-requires : goal.job_count-n-requires
job_count-n-requires c = tt

pub loop-i-init : goal.loop-i-init
loop-i-init c = look_begin _ _ _ c.job_count-n.ensures

pub job_at-requires : goal.job_at-requires
job_at-requires c = omega (arith, c.loop-i-test.true, c.loop-i.invariant.within)

pub look_at-best-requires : goal.look_at-best-requires
look_at-best-requires c = tt

pub loop-i-preserved : goal.loop-i-preserved
loop-i-preserved c = look_more _ _ c.loop-i.invariant (omega (arith, c.loop-i-test.true)) c.job_at.ensures c.look_at-best.ensures

pub returns : goal.returns
returns c = look_end _ _ c.loop-i.invariant (omega (arith, c.loop-i-test.false))
