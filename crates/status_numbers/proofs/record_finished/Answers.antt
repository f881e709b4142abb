-- `record_finished` meets its contract.
use mathlib.Core.Path.{sym, ap, ◌∙◌, subst}
use Rattle.status_record.specs.Record.{SoundStatus, finish_at}
use Rattle.status_record.specs.declared.Status.{Status}
use Rattle.status_numbers.specs.Numbers.{record_of}
use Rattle.status_numbers.proofs.Held.{held_sound}
use Rattle.status_numbers.proofs.record_finished.Goals as goal

pub finish_at-requires : goal.finish_at-requires
finish_at-requires c = subst SoundStatus (sym c.status_held.ensures) (held_sound c.args.r)

pub returns : goal.returns
returns c = c.record_of.ensures ∙ ap record_of (c.finish_at.ensures ∙ ap (λ (s : Status). finish_at s c.args.ms) c.status_held.ensures)
