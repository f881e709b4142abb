-- `hold_reading::columns::step_end` meets its contract.
use Rattle.hold_reading.proofs.columns.step_end.Goals as goal

pub returns : goal.returns
returns c = rw (← c.end_place.ensures) c.at.ensures
