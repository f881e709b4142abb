-- `held_times` meets its contract.
use native.Mathlib.Omega.{arith}
use Rattle.status_record.specs.Record.{held_times}
use Rattle.status_record.proofs.held_times.Goals as goal

pub returns : goal.returns
unfolding held_times
returns c = omega arith
