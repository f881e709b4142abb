use Rattle.run_core.specs.Numbers.{jobs_in}
use Rattle.run_core.specs.Passes.{pending_marks}
use Rattle.run_core.proofs.Table.{PassedTo}
use Rattle.run_core.proofs.mark_pending.Given as goal

abbrev pub invariant-loop-i : goal.invariant-loop-i
invariant-loop-i l = PassedTo pending_marks (jobs_in l.c) l.initial.marks l.marks l.i
