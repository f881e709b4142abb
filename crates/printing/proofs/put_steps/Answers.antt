-- `printing::put_steps` meets its contract.
use native.Mathlib.Omega.{arith}
use mathlib.Core.Path.{refl}
use Rattle.printing.proofs.Putting.{spaced_start, spaced_more, spaced_end}
use Rattle.printing.proofs.put_steps.Goals as goal

pub loop-step-init : goal.loop-step-init
loop-step-init c = spaced_start _ _ _

pub put_worded-behind-requires : goal.put_worded-behind-requires
put_worded-behind-requires c = omega (arith, c.loop-step.invariant.puts.short, c.loop-step.invariant.kept, c.requires, c.loop-step-test.true)

pub loop-step-preserved : goal.loop-step-preserved
loop-step-preserved c = spaced_more _ c.loop-step-test.true refl c.put_worded-behind.auto.line c.loop-step.invariant c.put_worded-behind.ensures

pub shape_of-line : goal.shape_of-line
shape_of-line c = c.loop-step.invariant.kept

pub returns : goal.returns
returns c = spaced_end c.loop-step-test.false c.loop-step.invariant
