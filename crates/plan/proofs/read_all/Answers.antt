-- `plan::read_all` meets its contract.
use Rattle.io.proofs.Counting.{prefix_len_of_le}
use native.Mathlib.Omega.{arith}
use Rattle.plan.proofs.read_all.Goals as goal

pub returns-then-n-eq0 : goal.returns-then-n-eq0
returns-then-n-eq0 g c = prefix_len_of_le _ _ (omega (arith, c.loop-done.invariant.0, c.read.auto.buf))

pub returns : goal.returns
returns g c = prefix_len_of_le _ _ c.loop-done.invariant.0
