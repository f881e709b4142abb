-- `hold_columns::maker` meets its contract.
use Rattle.hold_columns.proofs.maker.Goals as goal

pub returns : goal.returns
returns c = rw (← c.at.ensures) c.at-2.ensures
