use Prim.Native.Nat.{◌-◌}
use mathlib.Core.Path.{◌≡◌}
use lib.ListN.{length}
use Rattle.report.specs.Held.{ToWrite}
use Rattle.plan.proofs.write_steps.Given as goal

abbrev pub invariant-loop-place : goal.invariant-loop-place
invariant-loop-place g l =
    (length l.bytes ≡ length l.initial.bytes) × (length l.ends ≡ length l.initial.ends) × (length l.out ≡ length l.initial.out) × ToWrite l.bundle l.steps l.bytes l.ends l.out l.place l.held

abbrev pub decreases-loop-place : goal.decreases-loop-place
decreases-loop-place g l = length l.steps - l.place
