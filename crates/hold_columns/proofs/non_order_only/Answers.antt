-- `hold_columns::non_order_only` meets its contract.
use Rattle.hold_columns.specs.Columns.{non_order_only_in}
use Rattle.hold_columns.proofs.non_order_only.Goals as goal

pub returns : goal.returns
unfolding non_order_only_in
returns c = rw (c.end_at-to.ensures, c.end_at-from.ensures)
