use Prim.Native.Nat.{◌-◌}
use mathlib.Core.Path.{◌≡◌}
use lib.ListN.{length}
use Rattle.apply_defaults.proofs.Adding.{Adding}
use Rattle.hold_reading.specs.Buffers.{buffers}
use Rattle.apply_defaults.proofs.add_sound.Given as goal

abbrev pub invariant-loop-from : goal.invariant-loop-from
invariant-loop-from l = (length l.graph ≡ length l.initial.graph) × (length l.word ≡ length l.initial.word) × Adding l.l (buffers l.names l.index l.texts l.bind l.initial.graph) l.initial.d l.s.start l.initial.i l.graph l.d l.i

abbrev pub decreases-loop-from : goal.decreases-loop-from
decreases-loop-from l = length l.l - l.i
