-- `ask_header_list::places_of` meets its contract.
use Rattle.ask_header_list.proofs.Placing.{places_from}
use Rattle.ask_header_list.proofs.places_of.Goals as goal

pub returns : goal.returns
returns c = places_from _ _ c.start_of-start.ensures c.step_end-outs.ensures c.step_end-ins.ensures c.step_end-implicit.ensures c.step_end-order.ensures
