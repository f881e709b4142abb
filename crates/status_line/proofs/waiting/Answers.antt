-- `waiting` meets its contract.
use native.Mathlib.Omega.{arith}
use Rattle.status_line.proofs.waiting.Goals as goal

pub returns : goal.returns
returns c = omega arith
