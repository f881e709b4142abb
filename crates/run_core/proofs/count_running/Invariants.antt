use Rattle.run_core.specs.Numbers.{jobs_in}
use Rattle.run_core.proofs.Steps.{CountedTo}
use Rattle.run_core.proofs.count_running.Given as goal

abbrev pub invariant-loop-i : goal.invariant-loop-i
invariant-loop-i l = CountedTo (jobs_in l.c) l.r l.i
