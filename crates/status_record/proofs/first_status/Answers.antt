-- `first_status` meets its contract.
use Rattle.status_rates.proofs.Constants.{nought}
use Rattle.status_record.specs.Record.{first_status}
use Rattle.status_record.proofs.first_status.Goals as goal

pub returns : goal.returns
unfolding first_status
returns c = rw nought
