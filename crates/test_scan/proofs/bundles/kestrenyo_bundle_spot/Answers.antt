-- `test_scan::bundles::kestrenyo_bundle_spot` meets its contract.
use native.Mathlib.Omega.{arith}
use Rattle.test_scan.proofs.Bundling.{sounds, spot_none, spot_past, spot_in}
use Rattle.test_scan.proofs.bundles.kestrenyo_bundle_spot.Goals as goal

pub returns-then-n-eq0 : goal.returns-then-n-eq0
returns-then-n-eq0 c = spot_none _ _ c.records_in-n.ensures c.if-n-eq0.true

pub spot_of-s-requires : goal.spot_of-s-requires
spot_of-s-requires c = let s = sounds _ c.records_in-n.ensures (omega arith) in record { laid_bundle = s.laid; n_value = s.count }

pub returns-then-n-s : goal.returns-then-n-s
returns-then-n-s c = spot_past _ _ c.records_in-n.ensures c.if-n-eq0.false _ c.spot_of-s.ensures c.if-n-s.true

pub overflow_add-result : goal.overflow_add-result
overflow_add-result c = let s = sounds _ c.records_in-n.ensures (omega arith) in omega (arith, s.few)

pub returns : goal.returns
returns c = spot_in _ _ c.records_in-n.ensures c.if-n-eq0.false _ c.spot_of-s.ensures c.if-n-s.false
