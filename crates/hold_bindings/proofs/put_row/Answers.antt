-- `hold_bindings::put_row` meets its contract.
use native.Mathlib.Omega.{arith}
use lib.ListN.{length-set}
use Rattle.hold_bindings.proofs.put_row.Goals as goal

pub bounds-bind-i-2 : goal.bounds-bind-i-2
bounds-bind-i-2 c = simp length-set (omega arith)
