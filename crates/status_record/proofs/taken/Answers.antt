-- `taken` meets its contract.
use native.Mathlib.Omega.{arith}
use Rattle.status_record.specs.Record.{taken_time}
use Rattle.status_record.proofs.taken.Goals as goal

pub returns : goal.returns
unfolding taken_time
returns c = omega arith
