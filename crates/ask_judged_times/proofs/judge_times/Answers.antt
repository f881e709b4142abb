-- `ask_judged_times::judge_times` meets its contract.
use mathlib.Core.Path.{sym}
use Rattle.spec.specs.Limits.{max_steps}
use Rattle.hold_columns.proofs.Blank.{length_blank}
use Rattle.ask_judged_times.proofs.judge_times.Goals as goal

pub slice_bounds-mark_then_clear-end : goal.slice_bounds-mark_then_clear-end
slice_bounds-mark_then_clear-end c = length_blank _ max_steps c.requires.sound.few_steps

pub mark_then_clear-requires : goal.mark_then_clear-requires
mark_then_clear-requires c = record { asked = c.requires; marks_long = sym (length_blank _ max_steps c.requires.sound.few_steps) }
