use Rattle.graph_stale.proofs.Marking.{Keeping}
use Rattle.graph_stale.proofs.keep_commands.Given as goal

abbrev pub invariant-loop-s : goal.invariant-loop-s
invariant-loop-s l = Keeping l.phony l.initial.marks l.marks l.s
