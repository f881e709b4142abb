-- `hold_columns::end_at` meets its contract.
use Rattle.hold_columns.proofs.end_at.Goals as goal

pub returns : goal.returns
returns c = rw (← c.end_place.ensures) c.at.ensures
