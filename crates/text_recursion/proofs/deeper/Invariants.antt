use Rattle.text_recursion.proofs.Levels.{Marking}
use Rattle.text_recursion.proofs.deeper.Given as goal

abbrev pub invariant-loop-k : goal.invariant-loop-k
invariant-loop-k l = Marking l.texts l.bind l.a l.d l.r l.k
