use Prim.Native.Nat.{◌-◌}
use mathlib.Core.Path.{◌≡◌}
use lib.ListN.{length}
use Rattle.apply_path_checks.proofs.Walking.{Looked}
use Rattle.hold_reading.specs.Buffers.{buffers}
use Rattle.apply_path_checks.proofs.has_wrong.Given as goal

abbrev pub invariant-loop-from : goal.invariant-loop-from
invariant-loop-from l = (length l.word ≡ length l.initial.word) × Looked l.kind l.l (buffers l.names l.index l.texts l.bind l.graph) l.c l.initial.i l.i

abbrev pub decreases-loop-from : goal.decreases-loop-from
decreases-loop-from l = length l.l - l.i
