use Rattle.graph_roots.proofs.Appending.{Appending}
use Rattle.graph_roots.proofs.append_unmarked.Given as goal

abbrev pub invariant-loop-f : goal.invariant-loop-f
invariant-loop-f l = Appending l.fs l.marks l.initial.out l.k l.out l.n l.f-index
