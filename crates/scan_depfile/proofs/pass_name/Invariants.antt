use Prim.Native.Nat.{◌-◌}
use lib.ListN.{length}
use Rattle.scan_depfile.proofs.Naming.{Naming}
use Rattle.scan_depfile.proofs.pass_name.Given as goal

abbrev pub invariant-loop-b : goal.invariant-loop-b
invariant-loop-b l = Naming l.s l.from l.initial.word l.word l.i l.n

abbrev pub decreases-loop-b : goal.decreases-loop-b
decreases-loop-b l = length l.s - l.i
