use Prim.Native.Nat.{ℕ, ◌-◌}
use mathlib.Core.List.{List}
use lib.ListN.{length}
use Rattle.spec.specs.Forms.{paths}
use Rattle.scan_tokens.proofs.Places.{Going}
use Rattle.test_scan.specs.Scanners.{paths_number}
use Rattle.test_scan.proofs.scanners.paths_from.Given as goal

abbrev pub invariant-loop-end : goal.invariant-loop-end
invariant-loop-end l = Going (λ (rest : List ℕ). paths_number l.s (paths rest)) l.s l.from l.i

abbrev pub decreases-loop-end : goal.decreases-loop-end
decreases-loop-end l = length l.s - l.i
