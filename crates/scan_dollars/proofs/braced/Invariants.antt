use Rattle.lists.specs.Runs.{Scanning}
use Rattle.spec.specs.Bytes.{class_of}
use Rattle.scan_classes.specs.Table.{class_up_to}
use Rattle.scan_dollars.proofs.braced.Given as goal

abbrev pub invariant-loop-i : goal.invariant-loop-i
invariant-loop-i l = Scanning (λ b. class_up_to 2 (class_of b)) l.s l.from l.i
