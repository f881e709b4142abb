-- `scan_depfile::only_blank` meets its contract.
use Rattle.scan_depfile.proofs.Listing.{only_blank}
use Rattle.scan_depfile.proofs.only_blank.Goals as goal

pub returns : goal.returns
returns c = only_blank c.skip_blank.ensures
