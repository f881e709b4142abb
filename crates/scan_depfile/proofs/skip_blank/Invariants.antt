use Prim.Native.Nat.{◌-◌}
use lib.ListN.{length}
use Rattle.depfile.specs.Depfile.{behind_blank}
use Rattle.scan_depfile.proofs.Walking.{Walking}
use Rattle.scan_depfile.proofs.skip_blank.Given as goal

abbrev pub invariant-loop-i : goal.invariant-loop-i
invariant-loop-i l = Walking behind_blank l.s l.from l.i

abbrev pub decreases-loop-i : goal.decreases-loop-i
decreases-loop-i l = length l.s - l.i
