-- `rate_number` meets its contract.
use Rattle.std.specs.Prelude.{Float, Option, Some, None, unwrap_or}
use mathlib.Core.Path.{◌≡◌, refl, ◌∙◌}
use Rattle.status_rates.specs.Rates.{whole_float}
use Rattle.status_rates.proofs.Constants.{nought}
use Rattle.status_numbers.specs.Numbers.{rate_number}
use Rattle.status_numbers.proofs.rate_number.Goals as goal

number_or : (r : Option Float) (d : Float) → d ≡ whole_float 0 → unwrap_or r d ≡ rate_number r
unfolding rate_number
number_or None d e = e
number_or (Some x) d e = refl

pub returns : goal.returns
returns c = c.unwrap_or.ensures ∙ number_or c.args.r _ nought
