-- `status_held` meets its contract.
use native.Mathlib.Omega.{arith}
use Rattle.status_numbers.specs.Numbers.{status_held}
use Rattle.status_numbers.proofs.status_held.Goals as goal

pub overflow_sub-running : goal.overflow_sub-running
overflow_sub-running c = omega arith

pub returns : goal.returns
unfolding status_held
returns c = rw (c.rate_held-2.ensures, c.rate_held.ensures, c.min.ensures, c.min-finished.ensures, c.min-started.ensures)
