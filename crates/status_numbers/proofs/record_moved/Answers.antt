-- `record_moved` meets its contract.
use mathlib.Core.Path.{ap, ◌∙◌}
use Rattle.status_record.specs.Record.{moved_to}
use Rattle.status_record.specs.declared.Status.{Status}
use Rattle.status_numbers.specs.Numbers.{record_of}
use Rattle.status_numbers.proofs.record_moved.Goals as goal

pub returns : goal.returns
returns c = c.record_of.ensures ∙ ap record_of (c.moved_to.ensures ∙ ap (λ (s : Status). moved_to s c.args.ms) c.status_held.ensures)
