use Rattle.run_table.proofs.Turns.{Filling}
use Rattle.run_table.proofs.fresh.Given as goal

abbrev pub invariant-loop-i : goal.invariant-loop-i
invariant-loop-i l = Filling l.steps l.pools l.n l.initial.jobs l.jobs l.i
