use Rattle.scan_cursor.proofs.Finding.{Reading, left}
use Rattle.scan_cursor.proofs.lines_from.Given as goal

abbrev pub invariant-loop-f : goal.invariant-loop-f
invariant-loop-f l = Reading l.m l.from l.initial.out l.r.manifest.now l.r.cursor l.out l.f

abbrev pub decreases-loop-f : goal.decreases-loop-f
decreases-loop-f l = left l.m l.f
