use Rattle.status_line.proofs.Lining.{Lining}
use Rattle.status_line.proofs.put_line.Given as goal

abbrev pub invariant-loop-b : goal.invariant-loop-b
invariant-loop-b l = Lining l.s l.format l.initial.buffer l.buffer l.n l.b-index l.after
