-- `hold_names::counted` meets its contract.
use Rattle.hold_names.proofs.Halving.{tell_before, tell_same, tell_behind}
use Rattle.hold_names.proofs.counted.Goals as goal

pub returns-in-Less : goal.returns-in-Less
returns-in-Less c = tell_before _ c.in-Less.is

pub returns-in-Equal : goal.returns-in-Equal
returns-in-Equal c = tell_same _ c.in-Equal.is

pub returns-in-Greater : goal.returns-in-Greater
returns-in-Greater c = tell_behind _ c.in-Greater.is
