use Rattle.apply_step_columns.proofs.Making.{Making}
use Rattle.apply_step_columns.proofs.make.Given as goal

abbrev pub invariant-loop-i : goal.invariant-loop-i
invariant-loop-i l = Making l.initial.graph l.from l.to l.v l.graph l.i
