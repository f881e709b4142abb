use Rattle.report_lines.proofs.Lining.{Lining}
use Rattle.report_lines.proofs.text_lines.Given as goal

abbrev pub invariant-loop-i : goal.invariant-loop-i
invariant-loop-i l = Lining l.place l.count l.bytes l.ends l.initial.out l.out l.i l.from l.behind
