use Rattle.lists.specs.Runs.{Scanning}
use Rattle.scan_targets.specs.Next.{other}
use Rattle.scan_targets.proofs.line_end.Given as goal

abbrev pub invariant-loop-i : goal.invariant-loop-i
invariant-loop-i l = Scanning other l.t l.from l.i
