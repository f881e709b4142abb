use lib.ListN.{length}
use Rattle.graph_sources.proofs.Absent.{Searching}
use Rattle.graph_sources.proofs.missing_source.Given as goal

abbrev pub invariant-loop-s : goal.invariant-loop-s
invariant-loop-s l = Searching l.mentions l.ends l.made l.times l.roots l.order (length l.made) l.low l.s-index
