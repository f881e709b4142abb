-- `test_scan::bundles::records_in` meets its contract.
use mathlib.Core.Path.{◌∙◌}
use Rattle.test_scan.proofs.Bundling.{records_told}
use Rattle.test_scan.proofs.bundles.records_in.Goals as goal

pub returns : goal.returns
returns c = c.unwrap_or.ensures ∙ records_told _ c.index.ensures
