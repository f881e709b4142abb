use Rattle.ask_header_graph.proofs.Splitting.{Splitting}
use Rattle.ask_header_graph.proofs.split_lists.Given as goal

abbrev pub invariant-loop-s : goal.invariant-loop-s
invariant-loop-s l = Splitting l.second l.steps l.missing l.listed l.s
