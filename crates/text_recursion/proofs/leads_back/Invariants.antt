use Rattle.text_recursion.proofs.Levels.{Level}
use Rattle.text_recursion.proofs.leads_back.Given as goal

abbrev pub invariant-loop-k : goal.invariant-loop-k
invariant-loop-k l = Level l.texts l.bind l.a l.k l.d
