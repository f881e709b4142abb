-- `test_scan::scanners::kestrenyo_paths` meets its contract.
use Rattle.test_scan.proofs.Numbers.{drop_start}
use Rattle.test_scan.proofs.scanners.kestrenyo_paths.Goals as goal

pub returns : goal.returns
returns c = rw (drop_start _ _ c.start_in-i.ensures) at c.paths_from.ensures
