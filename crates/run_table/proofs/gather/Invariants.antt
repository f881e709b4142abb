use Rattle.run_table.proofs.Turns.{Noting}
use Rattle.run_table.proofs.gather.Given as goal

abbrev pub invariant-loop-i : goal.invariant-loop-i
invariant-loop-i l = Noting l.jobs l.initial.columns l.columns l.i
