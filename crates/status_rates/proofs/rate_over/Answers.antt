-- `rate_over` meets its contract.
use Rattle.status_rates.specs.Rates.{rate_of}
use Rattle.status_rates.proofs.Constants.{nought}
use Rattle.status_rates.proofs.rate_over.Goals as goal

pub returns-then-elapsed : goal.returns-then-elapsed
unfolding rate_of
returns-then-elapsed c = rw (c.as_float.ensures, rw nought at c.if-elapsed.true)

pub returns : goal.returns
unfolding rate_of
returns c = rw (rw nought at c.if-elapsed.false)
