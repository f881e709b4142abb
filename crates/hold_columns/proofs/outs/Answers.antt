-- `hold_columns::outs` meets its contract.
use Rattle.hold_columns.specs.Columns.{outs_in}
use Rattle.hold_columns.proofs.outs.Goals as goal

pub returns : goal.returns
unfolding outs_in
returns c = rw (c.end_at-to.ensures, c.start-from.ensures)
