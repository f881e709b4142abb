-- `apply_step_columns::make` meets its contract.
use native.Mathlib.Omega.{arith}
use Rattle.apply_step_columns.proofs.Making.{make_begin, make_in, make_low, make_fits, make_on, make_end}
use Rattle.apply_step_columns.proofs.make.Goals as goal

pub loop-i-init : goal.loop-i-init
loop-i-init c = make_begin c.requires

pub at-f-requires : goal.at-f-requires
at-f-requires c = make_in c.loop-i.invariant c.loop-i-test.true

pub overflow_add-f : goal.overflow_add-f
overflow_add-f c = omega (arith, make_low c.loop-i.invariant c.loop-i-test.true c.at-f.ensures)

pub put-requires : goal.put-requires
put-requires c = (make_fits c.loop-i.invariant c.loop-i-test.true c.at-f.ensures, c.requires.small)

pub loop-i-preserved : goal.loop-i-preserved
loop-i-preserved c = make_on c.loop-i.invariant c.loop-i-test.true c.at-f.ensures c.put.ensures

pub returns : goal.returns
returns c = make_end c.loop-i.invariant c.loop-i-test.false
