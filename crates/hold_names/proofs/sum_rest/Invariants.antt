use Rattle.hold_names.specs.Table.{Summed}
use Rattle.hold_names.proofs.sum_rest.Given as goal

abbrev pub invariant-loop-i : goal.invariant-loop-i
invariant-loop-i l = Summed l.path l.sum l.from l.h l.i
