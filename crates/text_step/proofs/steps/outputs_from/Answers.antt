-- `text_step::steps::outputs_from` meets its contract.
use mathlib.Core.Path.{◌∙◌}
use Rattle.text_step.proofs.Picking.{outputs_first, outputs_later}
use Rattle.text_step.proofs.steps.outputs_from.Goals as goal

pub returns-then-step-eq0 : goal.returns-then-step-eq0
returns-then-step-eq0 c = outputs_first c.args.graph.now c.args.step c.if-step-eq0.true

pub returns : goal.returns
returns c = c.step_end.ensures ∙ outputs_later c.args.graph.now c.args.step c.if-step-eq0.false
