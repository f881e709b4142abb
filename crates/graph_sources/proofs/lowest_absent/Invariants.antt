use Rattle.graph_sources.proofs.Absent.{Lowering}
use Rattle.graph_sources.proofs.lowest_absent.Given as goal

abbrev pub invariant-loop-f : goal.invariant-loop-f
invariant-loop-f l = Lowering l.times l.made l.fs l.best l.low l.f-index
