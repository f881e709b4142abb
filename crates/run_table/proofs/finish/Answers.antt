-- `run_table::finish` meets its contract.
use Rattle.run_table.proofs.Promised.{finished_by}
use Rattle.run_table.proofs.finish.Goals as goal

pub returns : goal.returns
returns c = finished_by c.gather.ensures c.change_place-i.ensures c.change_state-state.ensures c.put_state.ensures c.finish_change-c.ensures
