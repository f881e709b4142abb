-- `counting` meets its contract.
use mathlib.Core.Path.{refl}
use Rattle.status_record.specs.Record.{counting}
use Rattle.status_record.proofs.counting.Goals as goal

pub returns : goal.returns
unfolding counting
returns c = refl
