-- `rate_held` meets its contract.
use Rattle.std.proofs.Common.{rules}
use Rattle.status_numbers.specs.Numbers.{rate_held}
use Rattle.status_numbers.proofs.rate_held.Goals as goal

pub returns : goal.returns
unfolding rate_held
returns c = search rules
