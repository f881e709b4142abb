-- `run_table::start` meets its contract.
use Rattle.run_table.proofs.Promised.{started_by}
use Rattle.run_table.proofs.start.Goals as goal

pub returns : goal.returns
returns c = started_by c.gather.ensures c.change_place-i.ensures c.change_state-state.ensures c.put_state.ensures c.start_change-c.ensures
