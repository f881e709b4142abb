-- `ask_plan_headed::time_then_plan` meets its contract.
use Rattle.ask_plan_headed.proofs.Planned.{ask_times, ask_order, planned}
use borrow.Author.Rules.{rules}
use Rattle.ask_plan_headed.proofs.time_then_plan.Goals as goal

pub headed_times-requires : goal.headed_times-requires
headed_times-requires c = ask_times c.requires

pub plan_ordered-requires : goal.plan_ordered-requires
plan_ordered-requires c = ask_order c.requires c.headed_times.auto.times

pub returns : goal.returns
returns c = record { space = record { long = (search rules) }; promise = planned c.headed_times.ensures c.plan_ordered.ensures }
