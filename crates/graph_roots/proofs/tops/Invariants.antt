use Rattle.graph_roots.proofs.Gathering.{Gathering}
use Rattle.graph_roots.proofs.tops.Given as goal

abbrev pub invariant-loop-s : goal.invariant-loop-s
invariant-loop-s l = Gathering l.g.mentions.now l.g.ends.now l.g.phony.now l.marks l.initial.out l.out l.k l.s
