use Rattle.scan_card.proofs.Naming.{Naming}
use Rattle.scan_card.proofs.sound_names.Given as goal

abbrev pub invariant-loop-k : goal.invariant-loop-k
invariant-loop-k l = Naming l.card l.n l.from l.to l.k
