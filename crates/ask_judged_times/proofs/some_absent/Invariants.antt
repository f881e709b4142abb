use Rattle.hold_columns.proofs.Looking.{Looking}
use Rattle.ask_judged_times.specs.Lists.{some_absent}
use Rattle.ask_judged_times.proofs.some_absent.Given as goal

abbrev pub invariant-loop-f : goal.invariant-loop-f
invariant-loop-f l = Looking (some_absent l.made l.times) l.fs l.f-index
