-- `hold_names::find_name` meets its contract.
use Rattle.hold_names.proofs.Steps.{sought_at, sought_none}
use Rattle.hold_names.proofs.find_name.Goals as goal

pub seek-s-requires : goal.seek-s-requires
seek-s-requires c = c.requires

pub returns-then-s-count : goal.returns-then-s-count
returns-then-s-count c = sought_at c.seek-s.ensures c.if-s-count.true

pub returns-else-s-count : goal.returns-else-s-count
returns-else-s-count c = sought_none c.seek-s.ensures c.if-s-count.false
