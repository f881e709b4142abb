-- `hold_reading::turned` meets its contract.
use mathlib.Core.Path.{refl}
use Rattle.hold_reading.proofs.turned.Goals as goal

pub returns : goal.returns
returns c = refl
