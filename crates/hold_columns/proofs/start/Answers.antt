-- `hold_columns::start` meets its contract.
use mathlib.Core.Path.{◌∙◌}
use Rattle.hold_columns.proofs.Places.{start_zero, start_suc}
use Rattle.hold_columns.proofs.start.Goals as goal

pub returns-then-s-eq0 : goal.returns-then-s-eq0
returns-then-s-eq0 c = start_zero _ _ c.if-s-eq0.true

pub returns : goal.returns
returns c = c.end_at.ensures ∙ start_suc _ _ c.if-s-eq0.false
