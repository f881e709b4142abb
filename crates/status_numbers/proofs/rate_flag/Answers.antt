-- `rate_flag` meets its contract.
use mathlib.Core.Path.{sym, ap}
use Rattle.status_numbers.specs.Numbers.{rate_flag}
use Rattle.status_numbers.proofs.rate_flag.Goals as goal

pub returns-in-None : goal.returns-in-None
unfolding rate_flag
returns-in-None c = ap rate_flag (sym c.in-None.is)

pub returns-in-Some : goal.returns-in-Some
unfolding rate_flag
returns-in-Some c = ap rate_flag (sym c.in-Some.is)
