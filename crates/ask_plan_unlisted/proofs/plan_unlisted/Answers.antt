-- `ask_plan_unlisted::plan_unlisted` meets its contract.
use Rattle.spec.specs.Limits.{max_files}
use Rattle.hold_columns.proofs.Blank.{length_blank}
use Rattle.hold_parts.proofs.Parts.{parted}
use Rattle.ask_plan_unlisted.proofs.Planned.{askable, plans_unlisted}
use Rattle.ask_plan_unlisted.proofs.plan_unlisted.Goals as goal

pub mentions_part-mentions-requires : goal.mentions_part-mentions-requires
mentions_part-mentions-requires c = parted c.requires.tabled

pub ends_part-ends-requires : goal.ends_part-ends-requires
ends_part-ends-requires c = parted c.requires.tabled

pub phony_part-phony-requires : goal.phony_part-phony-requires
phony_part-phony-requires c = parted c.requires.tabled

pub made_part-made-requires : goal.made_part-made-requires
made_part-made-requires c = parted c.requires.tabled

pub slice_bounds-times-end : goal.slice_bounds-times-end
slice_bounds-times-end c = (parted c.requires.tabled).few_files

pub slice_bounds-time_then_plan-end : goal.slice_bounds-time_then_plan-end
slice_bounds-time_then_plan-end c = length_blank _ max_files (parted c.requires.tabled).few_files

pub time_then_plan-requires : goal.time_then_plan-requires
time_then_plan-requires c = askable (record { mentions_cut = c.mentions_part-mentions.ensures; ends_cut = c.ends_part-ends.ensures; phony_cut = c.phony_part-phony.ensures; made_cut = c.made_part-made.ensures }) c.requires (length_blank _ max_files (parted c.requires.tabled).few_files)

pub shape_of-list : goal.shape_of-list
shape_of-list c = c.time_then_plan.auto.list

pub returns : goal.returns
returns c = plans_unlisted (record { mentions_cut = c.mentions_part-mentions.ensures; ends_cut = c.ends_part-ends.ensures; phony_cut = c.phony_part-phony.ensures; made_cut = c.made_part-made.ensures }) c.time_then_plan.ensures.promise
