-- `digit` meets its contract.
use mathlib.Core.Path.{refl}
use Rattle.status_line.specs.Pieces.{digit_of}
use Rattle.status_line.proofs.digit.Goals as goal

pub returns : goal.returns
unfolding digit_of
returns c = refl
