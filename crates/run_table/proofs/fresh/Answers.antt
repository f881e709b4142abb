-- `run_table::fresh` meets its contract.
use native.Mathlib.Omega.{arith}
use Rattle.run_table.proofs.Turns.{filling_begin, filling_more, filling_inside, filling_end}
use Rattle.run_table.proofs.fresh.Goals as goal

pub loop-i-init : goal.loop-i-init
loop-i-init c = filling_begin

pub offset_bounds-jobs-i : goal.offset_bounds-jobs-i
offset_bounds-jobs-i c = let h = filling_inside c.loop-i.invariant c.fresh_count-n.ensures c.loop-i-test.true in omega arith

pub bounds-jobs-i : goal.bounds-jobs-i
bounds-jobs-i c = filling_inside c.loop-i.invariant c.fresh_count-n.ensures c.loop-i-test.true

pub loop-i-preserved : goal.loop-i-preserved
loop-i-preserved c = filling_more c.loop-i.invariant c.loop-i-test.true c.fresh_job.ensures

pub returns : goal.returns
returns c = filling_end c.loop-i.invariant c.fresh_count-n.ensures c.loop-i-test.false c.fresh_number-number.ensures
