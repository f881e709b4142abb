-- `record_started` meets its contract.
use mathlib.Core.Path.{sym, ap, ◌∙◌, subst}
use Rattle.status_record.specs.Record.{SoundStatus, start_at}
use Rattle.status_record.specs.declared.Status.{Status}
use Rattle.status_numbers.specs.Numbers.{record_of}
use Rattle.status_numbers.proofs.Held.{held_sound}
use Rattle.status_numbers.proofs.record_started.Goals as goal

pub start_at-requires : goal.start_at-requires
start_at-requires c = subst SoundStatus (sym c.status_held.ensures) (held_sound c.args.r)

pub returns : goal.returns
returns c = c.record_of.ensures ∙ ap record_of (c.start_at.ensures ∙ ap (λ (s : Status). start_at s c.args.ms) c.status_held.ensures)
