-- `test_scan::bundles::kestrenyo_bundle_text` meets its contract.
use mathlib.Core.Path.{sym, ◌∙◌}
use native.Mathlib.Omega.{arith}
use Rattle.test_scan.proofs.Bundling.{sounds, text_none, text_other, text_same}
use Rattle.test_scan.proofs.bundles.kestrenyo_bundle_text.Goals as goal
use Rattle.test_scan.proofs.bundles.kestrenyo_bundle_text.Goals.{then-records_in-k-via-then-records_in-k, then-records_in-k-via-else-records_in-k+then-not-equal}

pub returns-then-records_in-k : goal.returns-then-records_in-k
returns-then-records_in-k c = elim c.then-records_in-k.branch [
  | then-records_in-k-via-then-records_in-k w ↦ text_none _ _ c.records_in.ensures w.if-records_in-k.true _
  | then-records_in-k-via-else-records_in-k+then-not-equal w ↦
      text_other _ _ c.records_in.ensures w.if-records_in-k.false _ (rw (← w.record_text.ensures) (sym w.equal.ensures ∙ w.if-not-equal.true))
]

pub record_text-requires : goal.record_text-requires
record_text-requires c = let s = sounds _ c.records_in.ensures (omega arith) in record { laid_bundle = s.laid; k_bound = omega (arith, s.count) }

pub returns : goal.returns
returns c = text_same _ _ c.records_in.ensures c.if-records_in-k.false _ (rw (← c.record_text.ensures) (sym c.equal.ensures ∙ c.if-not-equal.false))
