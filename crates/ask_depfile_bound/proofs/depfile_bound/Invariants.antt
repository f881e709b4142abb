use Rattle.ask_depfile_bound.proofs.Bound.{Seen}
use Rattle.ask_depfile_bound.proofs.depfile_bound.Given as goal

abbrev pub invariant-loop-k : goal.invariant-loop-k
invariant-loop-k l = Seen l.texts l.bind l.count l.k
