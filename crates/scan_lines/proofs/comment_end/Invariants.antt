use Rattle.spec.specs.Lines.{comment}
use Rattle.scan_lines.specs.Endings.{end_from}
use Rattle.scan_tokens.proofs.Places.{Going}
use Rattle.scan_lines.proofs.comment_end.Given as goal

abbrev pub invariant-loop-i : goal.invariant-loop-i
invariant-loop-i l = Going (end_from comment) l.m l.from l.i
