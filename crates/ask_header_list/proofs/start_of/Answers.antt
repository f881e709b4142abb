-- `ask_header_list::start_of` meets its contract.
use mathlib.Core.Path.{◌∙◌}
use Rattle.ask_header_list.proofs.Placing.{start_zero, start_suc}
use Rattle.ask_header_list.proofs.start_of.Goals as goal

pub returns-then-s-eq0 : goal.returns-then-s-eq0
returns-then-s-eq0 c = start_zero _ _ c.if-s-eq0.true

pub returns : goal.returns
returns c = c.step_end.ensures ∙ start_suc _ _ c.if-s-eq0.false
