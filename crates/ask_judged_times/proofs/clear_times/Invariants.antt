use Rattle.ask_judged_times.proofs.Clearing.{Clearing}
use Rattle.ask_judged_times.proofs.clear_times.Given as goal

abbrev pub invariant-loop-f : goal.invariant-loop-f
invariant-loop-f l = Clearing l.made l.marks l.initial.times l.times l.f
