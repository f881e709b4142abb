-- `ask_plan_unlisted::time_then_plan` meets its contract.
use Rattle.ask_plan_unlisted.proofs.Planned.{ask_times, ask_order, planned}
use Rattle.ask_plan_unlisted.proofs.time_then_plan.Goals as goal

pub fill_times-requires : goal.fill_times-requires
fill_times-requires c = ask_times c.requires

pub plan_ordered-requires : goal.plan_ordered-requires
plan_ordered-requires c = ask_order c.requires c.fill_times.auto.times

pub shape_of-times : goal.shape_of-times
shape_of-times c = c.fill_times.auto.times

pub shape_of-list : goal.shape_of-list
shape_of-list c = c.plan_ordered.auto.list

pub returns : goal.returns
returns c = record { space = record { long = (c.fill_times.auto.times) }; promise = planned c.requires c.fill_times.ensures c.plan_ordered.ensures }
