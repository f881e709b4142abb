use Rattle.printing.proofs.Putting.{Spaced}
use Rattle.printing.proofs.put_steps.Given as goal

abbrev pub invariant-loop-step : goal.invariant-loop-step
invariant-loop-step l = Spaced l.steps l.initial.line l.from l.line l.behind l.step-index
