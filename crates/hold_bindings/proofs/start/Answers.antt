-- `hold_bindings::start` meets its contract.
use mathlib.Core.Path.{◌∙◌}
use Rattle.hold_bindings.proofs.Entries.{start_later}
use Rattle.hold_bindings.specs.Held.{entry_start}
use Rattle.hold_bindings.proofs.start.Goals as goal

pub returns-then-k-eq0 : goal.returns-then-k-eq0
unfolding entry_start
returns-then-k-eq0 c = rw c.if-k-eq0.true

pub returns-else-k-eq0 : goal.returns-else-k-eq0
returns-else-k-eq0 c = c.at.ensures ∙ start_later c.args.bind.now c.args.k c.if-k-eq0.false
