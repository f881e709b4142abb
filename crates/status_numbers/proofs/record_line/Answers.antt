-- `record_line` meets its contract.
use Rattle.status_numbers.proofs.record_line.Goals as goal

pub returns : goal.returns
returns c = rw c.of_line.ensures (rw c.status_held.ensures at c.line.ensures)
