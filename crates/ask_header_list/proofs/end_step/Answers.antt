-- `ask_header_list::end_step` meets its contract.
use Rattle.ask_header_list.proofs.Ending.{ends_stored}
use Rattle.ask_header_list.proofs.end_step.Goals as goal

pub returns : goal.returns
returns c = ends_stored _ c.args.s c.args.e c.args.n c.end_place.ensures c.put.ensures c.end_place-2.ensures c.put-2.ensures c.end_place-3.ensures c.put-3.ensures c.end_place-4.ensures c.put-4.ensures c.put-5.ensures
