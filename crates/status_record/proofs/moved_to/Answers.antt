-- `moved_to` meets its contract.
use Rattle.status_record.specs.Record.{moved_to}
use Rattle.status_record.proofs.moved_to.Goals as goal

pub returns : goal.returns
unfolding moved_to
returns c = rw (c.rate_over-overall.ensures, c.seconds-elapsed.ensures, c.as_float.ensures, c.taken-last.ensures)
