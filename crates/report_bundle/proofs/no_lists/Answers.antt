-- `report_bundle::no_lists` meets its contract.
use mathlib.Core.Path.{refl}
use Rattle.spec.specs.Bundle.{bundled}
use Rattle.report_bundle.proofs.no_lists.Goals as goal

pub returns : goal.returns
unfolding bundled
returns c = refl
