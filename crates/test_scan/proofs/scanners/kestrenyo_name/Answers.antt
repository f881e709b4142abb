-- `test_scan::scanners::kestrenyo_name` meets its contract.
use Rattle.test_scan.proofs.Numbers.{token}
use Rattle.test_scan.proofs.scanners.kestrenyo_name.Goals as goal

pub returns : goal.returns
returns c = token _ _ c.start_in-i.ensures c.name_end.ensures
