use Rattle.ask_header_list.proofs.Copying.{Copying}
use Rattle.ask_header_list.proofs.copy_mentions.Given as goal

abbrev pub invariant-loop-i : goal.invariant-loop-i
invariant-loop-i l = Copying l.graph l.from l.to l.initial.second l.c l.second l.i l.paths
