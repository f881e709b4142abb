use Rattle.ask_file_times.proofs.Filling.{Filling}
use Rattle.ask_file_times.proofs.fill_times.Given as goal

abbrev pub invariant-loop-f : goal.invariant-loop-f
invariant-loop-f l = Filling l.card l.names l.index l.count l.initial.times l.f l.times
