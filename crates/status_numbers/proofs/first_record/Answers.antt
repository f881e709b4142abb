-- `first_record` meets its contract.
use mathlib.Core.Path.{ap, ◌∙◌}
use Rattle.status_numbers.specs.Numbers.{record_of}
use Rattle.status_numbers.proofs.first_record.Goals as goal

pub returns : goal.returns
returns c = c.record_of.ensures ∙ ap record_of c.first_status.ensures
