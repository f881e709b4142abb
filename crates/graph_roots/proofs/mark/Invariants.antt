use Rattle.graph_roots.proofs.Marking.{Marking}
use Rattle.graph_roots.proofs.mark.Given as goal

abbrev pub invariant-loop-f : goal.invariant-loop-f
invariant-loop-f l = Marking l.fs l.initial.marks l.marks l.f-index
