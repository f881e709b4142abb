-- `of_line` meets its contract.
use mathlib.Core.Path.{sym, ap, ◌∙◌}
use Rattle.status_line.specs.LineAsk.{line_says}
use Rattle.status_numbers.proofs.of_line.Goals as goal

pub returns-in-Ok : goal.returns-in-Ok
unfolding line_says
returns-in-Ok c = ap line_says (sym c.in-Ok.is)

pub returns-in-Err : goal.returns-in-Err
unfolding line_says
returns-in-Err c = c.of_line_refusal.ensures ∙ ap line_says (sym c.in-Err.is)
