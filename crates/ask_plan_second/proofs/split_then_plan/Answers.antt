-- `ask_plan_second::split_then_plan` meets its contract.
use Rattle.hold_parts.proofs.Parts.{parted}
use Rattle.ask_plan_second.proofs.Planned.{second_parted, ask_split, ask_headed, planned}
use Rattle.ask_plan_second.proofs.split_then_plan.Goals as goal

pub split_lists-requires : goal.split_lists-requires
split_lists-requires c = ask_split c.requires

pub mentions_part-wmentions-requires : goal.mentions_part-wmentions-requires
mentions_part-wmentions-requires c = parted c.requires.asked.tabled

pub ends_part-wends-requires : goal.ends_part-wends-requires
ends_part-wends-requires c = parted c.requires.asked.tabled

pub mentions_part-mentions-requires : goal.mentions_part-mentions-requires
mentions_part-mentions-requires c = second_parted c.requires.asked.headed

pub ends_part-ends-requires : goal.ends_part-ends-requires
ends_part-ends-requires c = second_parted c.requires.asked.headed

pub phony_part-phony-requires : goal.phony_part-phony-requires
phony_part-phony-requires c = second_parted c.requires.asked.headed

pub made_part-made-requires : goal.made_part-made-requires
made_part-made-requires c = second_parted c.requires.asked.headed

pub plan_headed-requires : goal.plan_headed-requires
plan_headed-requires c = ask_headed (record { wmentions_cut = c.mentions_part-wmentions.ensures; wends_cut = c.ends_part-wends.ensures; mentions_cut = c.mentions_part-mentions.ensures; ends_cut = c.ends_part-ends.ensures; phony_cut = c.phony_part-phony.ensures; made_cut = c.made_part-made.ensures }) c.split_lists.ensures c.requires.asked

pub shape_of-missing : goal.shape_of-missing
shape_of-missing c = c.split_lists.auto.missing

pub shape_of-listed : goal.shape_of-listed
shape_of-listed c = c.split_lists.auto.listed

pub shape_of-list : goal.shape_of-list
shape_of-list c = c.plan_headed.auto.list

pub returns : goal.returns
returns c = record { space = (record { long = (c.split_lists.auto.missing) }, record { long = (c.split_lists.auto.listed) }); promise = planned (record { wmentions_cut = c.mentions_part-wmentions.ensures; wends_cut = c.ends_part-wends.ensures; mentions_cut = c.mentions_part-mentions.ensures; ends_cut = c.ends_part-ends.ensures; phony_cut = c.phony_part-phony.ensures; made_cut = c.made_part-made.ensures }) c.split_lists.ensures c.plan_headed.ensures }
