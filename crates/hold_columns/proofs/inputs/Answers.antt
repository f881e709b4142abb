-- `hold_columns::inputs` meets its contract.
use Rattle.hold_columns.specs.Columns.{inputs_in}
use Rattle.hold_columns.proofs.inputs.Goals as goal

pub returns : goal.returns
unfolding inputs_in
returns c = rw (c.end_at-to.ensures, c.end_at-from.ensures)
