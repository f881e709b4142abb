-- `record_of` meets its contract.
use Rattle.status_numbers.specs.Numbers.{record_of}
use Rattle.status_numbers.proofs.record_of.Goals as goal

pub returns : goal.returns
unfolding record_of
returns c = rw (c.rate_number-2.ensures, c.rate_number.ensures, c.rate_flag-2.ensures, c.rate_flag.ensures)
