use Rattle.run_columns.proofs.Answers.{DepthsTo}
use Rattle.run_columns.proofs.copy_depths.Given as goal

abbrev pub invariant-loop-i : goal.invariant-loop-i
invariant-loop-i l = DepthsTo l.initial.room l.depths l.room l.i
