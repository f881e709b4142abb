-- `seconds` meets its contract.
use mathlib.Core.Path.{ap}
use lib.Ieee.{Float, binary64, div}
use Rattle.status_rates.specs.Rates.{seconds_of}
use Rattle.status_rates.proofs.Constants.{thousand}
use Rattle.status_rates.proofs.seconds.Goals as goal

pub returns : goal.returns
unfolding seconds_of
returns c = ap (λ (x : Float). div binary64 c.args.ms x) thousand
