use Rattle.lists.specs.Runs.{Scanning, is_not}
use Rattle.slices.proofs.bytes.find.Given as goal

abbrev pub invariant-loop-i : goal.invariant-loop-i
invariant-loop-i l = Scanning (is_not l.b) l.s l.from l.i
