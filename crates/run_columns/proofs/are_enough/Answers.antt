-- `run_columns::are_enough` meets its contract.
use mathlib.Core.Path.{refl}
use Rattle.run_columns.specs.Columns.{enough}
use Rattle.run_columns.proofs.are_enough.Goals as goal

pub returns : goal.returns
unfolding enough
returns c = refl
