use Rattle.ask_judged_times.proofs.Forcing.{Forcing}
use Rattle.ask_judged_times.proofs.mark_forced.Given as goal

abbrev pub invariant-loop-s : goal.invariant-loop-s
invariant-loop-s l = Forcing l.g.mentions.now l.g.ends.now l.g.made.now l.missing l.listed l.times l.marks l.s
