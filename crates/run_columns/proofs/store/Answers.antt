-- `run_columns::store` meets its contract.
use mathlib.Core.Path.{refl}
use native.Mathlib.Omega.{arith}
use lib.ListN.{length-set}
use Rattle.run_columns.specs.Columns.{stored_at}
use Rattle.run_columns.proofs.store.Goals as goal

pub bounds-columns-i-2 : goal.bounds-columns-i-2
bounds-columns-i-2 c = simp length-set (omega (arith, c.requires))

pub bounds-columns-i-3 : goal.bounds-columns-i-3
bounds-columns-i-3 c = simp length-set (omega (arith, c.requires))

pub returns : goal.returns
unfolding stored_at
returns c = refl
