-- `test_scan::bundles::kestrenyo_bundle_find` meets its contract.
use native.Mathlib.Omega.{arith}
use Rattle.scan_bundle.proofs.Laws.{opened}
use Rattle.test_scan.proofs.Bundling.{find_malformed, find_missing, find_at, find_small}
use Rattle.test_scan.proofs.bundles.kestrenyo_bundle_find.Goals as goal

pub returns-in_default : goal.returns-in_default
returns-in_default c = find_malformed c.index.ensures _ c.in_default.is

pub find_record-requires : goal.find_record-requires
find_record-requires c = (opened c.index.ensures c.in-Some.is).indexed

pub overflow_add-result : goal.overflow_add-result
overflow_add-result c = omega (arith, find_small c.index.ensures _ c.in-Some.is c.find_record.ensures c.in-Some-find_record.is)

pub returns-in-None : goal.returns-in-None
returns-in-None c = find_missing c.index.ensures _ c.in-Some.is c.find_record.ensures c.in-None.is

pub returns-in-Some-find_record : goal.returns-in-Some-find_record
returns-in-Some-find_record c = find_at c.index.ensures _ c.in-Some.is c.find_record.ensures c.in-Some-find_record.is
