-- `tenths` meets its contract: what is looked for stays between the two ends, until they meet.
use mathlib.Core.Path.{ap, ◌∙◌}
use native.Mathlib.Omega.{arith}
use lib.Ieee.{Float, binary64, mul, to_unsigned}
use Rattle.status_rates.specs.Rates.{tenths_of}
use Rattle.status_rates.proofs.Constants.{ten}
use Rattle.status_rates.proofs.Cut.{halving_begin, halving_up, halving_down, halving_end}
use Rattle.status_rates.proofs.tenths.Goals as goal

pub loop-low-init : goal.loop-low-init
loop-low-init c = halving_begin _

pub loop-low-preserved-then-as_float-v : goal.loop-low-preserved-then-as_float-v
loop-low-preserved-then-as_float-v c = halving_up _ c.loop-low.invariant (omega arith) (omega arith) (rw c.as_float.ensures at c.if-as_float-v.true)

pub loop-low-preserved : goal.loop-low-preserved
loop-low-preserved c = halving_down _ c.loop-low.invariant (omega arith) (omega arith) (rw c.as_float.ensures at c.if-as_float-v.false)

pub returns : goal.returns
unfolding tenths_of
returns c = halving_end c.loop-low.invariant c.loop-low-test.false ∙ ap (λ (x : Float). to_unsigned 25 (mul binary64 c.args.r x)) ten
