use Rattle.graph_stale.proofs.Times.{Newest}
use Rattle.graph_stale.proofs.newest.Given as goal

abbrev pub invariant-loop-f : goal.invariant-loop-f
invariant-loop-f l = Newest l.made l.phony l.times l.late l.fs l.t l.f-index
