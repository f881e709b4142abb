use Rattle.hold_columns.proofs.Looking.{Looking}
use Rattle.graph_stale.specs.Judge.{stale_maker}
use Rattle.graph_stale.proofs.stale_maker.Given as goal

abbrev pub invariant-loop-i : goal.invariant-loop-i
invariant-loop-i l = Looking (stale_maker l.made l.stale) l.fs l.i
