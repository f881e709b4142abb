-- `ask_plan_list::plan_listed` meets its contract.
use Rattle.ask_plan_list.proofs.Listed.{ask_list, listed}
use Rattle.ask_plan_list.proofs.plan_listed.Goals as goal

pub list_stale-n-requires : goal.list_stale-n-requires
list_stale-n-requires c = ask_list c.requires

pub returns : goal.returns
returns c = listed c.list_stale-n.ensures
