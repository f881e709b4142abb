-- `hold_bindings::begin_bindings` meets its contract.
use native.Mathlib.Omega.{arith}
use lib.ListN.{length-set}
use Rattle.hold_bindings.proofs.begin_bindings.Goals as goal

pub bounds-bind-5121 : goal.bounds-bind-5121
bounds-bind-5121 c = simp length-set (omega arith)

pub bounds-bind-5122 : goal.bounds-bind-5122
bounds-bind-5122 c = simp length-set (omega arith)
