-- `hold_bindings::put_scope` meets its contract.
use native.Mathlib.Omega.{arith}
use lib.ListN.{length-set}
use Rattle.hold_bindings.proofs.Marks.{scoped_new}
use Rattle.hold_bindings.proofs.put_scope.Goals as goal

pub bounds-bind-5120 : goal.bounds-bind-5120
bounds-bind-5120 c = simp length-set (omega arith)

pub bounds-bind-5121 : goal.bounds-bind-5121
bounds-bind-5121 c = simp length-set (omega arith)

pub returns : goal.returns
returns c = scoped_new c.requires.0 c.requires.1 c.at-scopes.ensures c.at-current.ensures
