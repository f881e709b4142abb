use Rattle.run_core.specs.Numbers.{jobs_in}
use Rattle.run_core.proofs.Steps.{SoughtTo}
use Rattle.run_core.proofs.any_failed.Given as goal

abbrev pub invariant-loop-i : goal.invariant-loop-i
invariant-loop-i l = SoughtTo (jobs_in l.c) l.i
