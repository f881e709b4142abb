use Prim.Native.Nat.{◌+◌, ◌-◌}
use lib.ListN.{length}
use Rattle.ask_target_files.proofs.Numbering.{Walked}
use Rattle.ask_target_files.proofs.number_targets.Given as goal

abbrev pub invariant-loop-end : goal.invariant-loop-end
invariant-loop-end l = Walked l.targets l.names l.index l.count l.initial.out l.from l.n l.out

abbrev pub decreases-loop-end : goal.decreases-loop-end
decreases-loop-end l = length l.targets + 1 - l.from
