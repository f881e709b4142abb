-- `test_scan::scanners::kestrenyo_gap` meets its contract.
use Rattle.test_scan.proofs.Numbers.{token}
use Rattle.test_scan.proofs.scanners.kestrenyo_gap.Goals as goal

pub returns : goal.returns
returns c = token _ _ c.start_in-i.ensures c.gap.ensures
