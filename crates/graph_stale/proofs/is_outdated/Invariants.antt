use Rattle.hold_columns.proofs.Looking.{Looking}
use Rattle.graph_stale.specs.Judge.{outdated}
use Rattle.graph_stale.proofs.is_outdated.Given as goal

abbrev pub invariant-loop-f : goal.invariant-loop-f
invariant-loop-f l = Looking (outdated l.times l.t) l.fs l.f-index
