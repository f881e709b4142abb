-- `ask_plan_headed::plan_headed` meets its contract.
use mathlib.Core.Path.{sym}
use Rattle.spec.specs.Limits.{max_files}
use Rattle.hold_columns.proofs.Blank.{length_blank}
use Rattle.ask_plan_headed.proofs.plan_headed.Goals as goal

pub slice_bounds-time_then_plan-end : goal.slice_bounds-time_then_plan-end
slice_bounds-time_then_plan-end c = length_blank _ max_files c.requires.sound.few_files

pub time_then_plan-requires : goal.time_then_plan-requires
time_then_plan-requires c = record { asked = c.requires; timed = sym (length_blank _ max_files c.requires.sound.few_files) }
