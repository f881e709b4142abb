-- `ask_plan_second::plan_second` meets its contract.
use mathlib.Core.Path.{sym}
use Rattle.spec.specs.Limits.{max_steps}
use Rattle.hold_columns.proofs.Blank.{length_blank}
use Rattle.ask_plan_second.proofs.plan_second.Goals as goal

pub slice_bounds-missing-end : goal.slice_bounds-missing-end
slice_bounds-missing-end c = c.requires.headed.few_steps

pub slice_bounds-split_then_plan-end : goal.slice_bounds-split_then_plan-end
slice_bounds-split_then_plan-end c = length_blank _ max_steps c.requires.headed.few_steps

pub slice_bounds-listed-end : goal.slice_bounds-listed-end
slice_bounds-listed-end c = c.requires.headed.few_steps

pub slice_bounds-split_then_plan-end-2 : goal.slice_bounds-split_then_plan-end-2
slice_bounds-split_then_plan-end-2 c = length_blank _ max_steps c.requires.headed.few_steps

pub split_then_plan-requires : goal.split_then_plan-requires
split_then_plan-requires c = let b = sym (length_blank _ max_steps c.requires.headed.few_steps) in record { asked = c.requires; missing_long = b; listed_long = b }

pub shape_of-list : goal.shape_of-list
shape_of-list c = c.split_then_plan.auto.list

pub returns : goal.returns
returns c = c.split_then_plan.ensures.promise
