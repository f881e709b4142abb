use Rattle.arena.proofs.Shifting.{Shifting}
use Rattle.arena.proofs.insert.Given as goal

abbrev pub invariant-loop-i : goal.invariant-loop-i
invariant-loop-i l = Shifting l.initial.table l.table l.n l.p l.i
