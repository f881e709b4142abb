use Rattle.run_core.specs.Numbers.{jobs_in}
use Rattle.run_core.proofs.Deciding.{LookedFrom}
use Rattle.run_core.proofs.lowest_ready.Given as goal

abbrev pub invariant-loop-i : goal.invariant-loop-i
invariant-loop-i l = LookedFrom l.marks l.room (jobs_in l.c) l.i l.best
