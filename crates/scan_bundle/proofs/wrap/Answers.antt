-- `scan_bundle::wrap` meets its contract.
use mathlib.Core.Path.{refl}
use Rattle.scan_bundle.proofs.Wrapping.{record_wrapped}
use Rattle.scan_bundle.proofs.wrap.Goals as goal

pub returns : goal.returns
returns c = record_wrapped _ _ _ c.requires.0 c.wrap_head.ensures c.copy_at.ensures c.copy_at-2.ensures refl
