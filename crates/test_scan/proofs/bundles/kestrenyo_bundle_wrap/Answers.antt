-- `test_scan::bundles::kestrenyo_bundle_wrap` meets its contract.
use native.Mathlib.Omega.{arith}
use Rattle.test_scan.proofs.Bundling.{wraps_fit, wraps_long, wraps_short}
use Rattle.test_scan.proofs.bundles.kestrenyo_bundle_wrap.Goals as goal
use Rattle.test_scan.proofs.bundles.kestrenyo_bundle_wrap.Goals.{then-size-gt4294967263-via-then-size-gt4294967263, then-size-gt4294967263-via-else-size-gt4294967263+then-out-size}

pub returns-then-size-gt4294967263 : goal.returns-then-size-gt4294967263
returns-then-size-gt4294967263 c = elim c.then-size-gt4294967263.branch [
  | then-size-gt4294967263-via-then-size-gt4294967263 w ↦ wraps_long _ _ _ (omega arith)
  | then-size-gt4294967263-via-else-size-gt4294967263+then-out-size w ↦ wraps_short _ _ _ w.if-out-size.true
]

pub returns : goal.returns
returns c = wraps_fit _ _ _ (omega arith) c.if-out-size.false c.wrap.ensures
