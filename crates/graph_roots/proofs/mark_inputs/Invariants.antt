use lib.ListN.{length}
use Rattle.graph_roots.proofs.Marking.{Inputs}
use Rattle.graph_roots.proofs.mark_inputs.Given as goal

abbrev pub invariant-loop-s : goal.invariant-loop-s
invariant-loop-s l = Inputs l.g.mentions.now l.g.ends.now (length l.g.phony.now) (length l.g.made.now) l.marks l.s
