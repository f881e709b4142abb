use Rattle.run_core.proofs.Steps.{RowsTo}
use Rattle.run_core.proofs.pass_rows.Given as goal

abbrev pub invariant-loop-link : goal.invariant-loop-link
invariant-loop-link l = RowsTo l.graph l.initial.marks l.flag l.marks l.link-index
