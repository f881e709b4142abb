-- `test_scan::bundles::kestrenyo_bundle_base` meets its contract.
use native.Mathlib.Omega.{arith}
use Rattle.test_scan.proofs.Bundling.{sounds, base_none, base_at}
use Rattle.test_scan.proofs.bundles.kestrenyo_bundle_base.Goals as goal

pub returns-then-records_in-k : goal.returns-then-records_in-k
returns-then-records_in-k c = base_none _ _ c.records_in.ensures c.if-records_in-k.true

pub text_base-requires : goal.text_base-requires
text_base-requires c = let s = sounds _ c.records_in.ensures (omega arith) in record { laid_bundle = s.laid; k_bound = omega (arith, s.count) }

pub returns : goal.returns
returns c = base_at _ _ c.records_in.ensures c.if-records_in-k.false c.text_base.ensures
