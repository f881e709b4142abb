-- `of_line_refusal` meets its contract.
use mathlib.Core.Path.{sym, ap}
use Rattle.status_line.specs.LineAsk.{line_refusal_says}
use Rattle.status_numbers.proofs.of_line_refusal.Goals as goal

pub returns-in-ShortBuffer : goal.returns-in-ShortBuffer
unfolding line_refusal_says
returns-in-ShortBuffer c = ap line_refusal_says (sym c.in-ShortBuffer.is)

pub returns-in-BadPlaceholder : goal.returns-in-BadPlaceholder
unfolding line_refusal_says
returns-in-BadPlaceholder c = ap line_refusal_says (sym c.in-BadPlaceholder.is)

pub returns-in-LongLine : goal.returns-in-LongLine
unfolding line_refusal_says
returns-in-LongLine c = ap line_refusal_says (sym c.in-LongLine.is)
