-- `ask_plan_order::plan_ordered` meets its contract.
use mathlib.Core.Path.{sym}
use Rattle.spec.specs.Limits.{max_steps}
use Rattle.hold_columns.proofs.Blank.{length_blank}
use Rattle.ask_plan_order.proofs.plan_ordered.Goals as goal

pub slice_bounds-sort_then_plan-end : goal.slice_bounds-sort_then_plan-end
slice_bounds-sort_then_plan-end c = length_blank _ max_steps c.requires.asked.sound.few_steps

pub sort_then_plan-requires : goal.sort_then_plan-requires
sort_then_plan-requires c = record { asked = c.requires; long = sym (length_blank _ max_steps c.requires.asked.sound.few_steps) }

pub returns : goal.returns
returns c = c.sort_then_plan.ensures.promise
