use Rattle.hold_columns.proofs.Looking.{Looking}
use Rattle.graph_list.specs.Listing.{all_clear}
use Rattle.graph_list.proofs.all_clear.Given as goal

abbrev pub invariant-loop-i : goal.invariant-loop-i
invariant-loop-i l = Looking (all_clear l.made l.clear) l.fs l.i
