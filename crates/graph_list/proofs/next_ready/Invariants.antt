use Rattle.graph_list.proofs.Passing.{Passing}
use Rattle.graph_list.proofs.next_ready.Given as goal

abbrev pub invariant-loop-s : goal.invariant-loop-s
invariant-loop-s l = Passing l.g.mentions.now l.g.ends.now l.g.made.now l.order l.pending l.clear l.best l.s-index
