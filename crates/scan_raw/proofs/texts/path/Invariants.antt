use Prim.Native.Nat.{◌-◌}
use lib.ListN.{length}
use Rattle.spec.specs.Forms.{path_stop}
use Rattle.scan_tokens.proofs.Places.{Going}
use Rattle.scan_raw.proofs.Look.{look}
use Rattle.scan_raw.proofs.texts.path.Given as goal

abbrev pub invariant-loop-i : goal.invariant-loop-i
invariant-loop-i l = Going (look path_stop) l.s l.from l.i

abbrev pub decreases-loop-i : goal.decreases-loop-i
decreases-loop-i l = length l.s - l.i
