-- `hold_names::start` meets its contract.
use mathlib.Core.Path.{◌∙◌}
use Rattle.hold_names.proofs.Lies.{start_none, start_one}
use Rattle.hold_names.proofs.start.Goals as goal

pub returns-then-k-eq0 : goal.returns-then-k-eq0
returns-then-k-eq0 c = start_none _ c.if-k-eq0.true

pub returns-else-k-eq0 : goal.returns-else-k-eq0
returns-else-k-eq0 c = c.at.ensures ∙ start_one _ _ c.if-k-eq0.false
