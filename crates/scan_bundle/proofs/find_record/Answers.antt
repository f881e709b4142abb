-- `scan_bundle::find_record` meets its contract.
use mathlib.Core.Path.{sym, ◌∙◌}
use Rattle.scan_bundle.proofs.Lying.{length_names}
use Rattle.scan_bundle.proofs.Sorting.{find_ok}
use Rattle.scan_bundle.proofs.find_record.Goals as goal

pub returns : goal.returns
returns c = c.ok.ensures.value ∙ find_ok _ c.requires.sorted (c.requires.count ∙ sym (length_names _)) _ c.place_of.ensures
