-- `ask_plan_headers::index_lists` meets its contract.
use Rattle.ask_plan_headers.proofs.Headed.{lists_by}
use Rattle.ask_plan_headers.proofs.index_lists.Goals as goal

pub index-requires : goal.index-requires
index-requires c = c.requires.room

pub shape_of-order : goal.shape_of-order
shape_of-order c = c.index.auto.order

pub returns : goal.returns
returns c = record { space = record { long = (c.index.auto.order) }; promise = lists_by _ c.index.ensures c.requires c.unwrap_or.ensures }
