-- `printing::say_circle` meets its contract.
use mathlib.Core.Path.{◌∙◌}
use Rattle.printing.proofs.Putting.{said_circle}
use Rattle.printing.proofs.say_circle.Goals as goal

pub returns : goal.returns
returns c = said_circle c.args.circle.now (c.put_steps-behind.auto.line ∙ c.put-named.auto.line ∙ c.put_refused-refused.auto.line) c.put_refused-refused.ensures c.put-named.ensures c.put_steps-behind.ensures c.end_line.ensures
