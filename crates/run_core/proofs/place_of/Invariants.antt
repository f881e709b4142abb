use Rattle.run_core.specs.Numbers.{jobs_in}
use Rattle.run_core.proofs.Steps.{PlacedTo}
use Rattle.run_core.proofs.place_of.Given as goal

abbrev pub invariant-loop-i : goal.invariant-loop-i
invariant-loop-i l = PlacedTo l.s l.state (jobs_in l.c) l.i
