use Prim.Native.Nat.{◌-◌}
use mathlib.Core.Bool.{false}
use lib.ListN.{length}
use Rattle.scan_tokens.proofs.Places.{Going}
use Rattle.scan_raw.proofs.Look.{look}
use Rattle.scan_raw.proofs.texts.bad_dollar.Given as goal

abbrev pub invariant-loop-i : goal.invariant-loop-i
invariant-loop-i l = Going (look (λ b. false)) l.raw 0 l.i

abbrev pub decreases-loop-i : goal.decreases-loop-i
decreases-loop-i l = length l.raw - l.i
