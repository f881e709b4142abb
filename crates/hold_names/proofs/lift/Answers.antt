-- `hold_names::lift` meets its contract.
use Rattle.hold_names.proofs.Lifting.{lift_begin, lift_on, lift_end}
use Rattle.hold_names.proofs.lift.Goals as goal

pub loop-i-init : goal.loop-i-init
loop-i-init c = lift_begin _ _ c.requires.0

pub loop-i-preserved : goal.loop-i-preserved
loop-i-preserved c = lift_on c.loop-i.invariant c.loop-i-test.true c.requires.1

pub returns : goal.returns
returns c = lift_end c.loop-i.invariant c.loop-i-test.false
