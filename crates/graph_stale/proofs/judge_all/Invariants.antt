use Rattle.graph_stale.proofs.Along.{Telling}
use Rattle.graph_stale.proofs.judge_all.Given as goal

abbrev pub invariant-loop-step : goal.invariant-loop-step
invariant-loop-step l = Telling l.g.mentions.now l.g.ends.now l.g.phony.now l.g.made.now l.times l.order l.initial.stale l.stale l.late l.step-index
