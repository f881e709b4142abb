use Rattle.hold_reading.specs.ReadBuffers.{buffers_of}
use lib.ListN.{length}
use mathlib.Core.Path.{◌≡◌}
use Rattle.text_batch.proofs.Walking.{Walking}
use Rattle.text_batch.proofs.walk.Given as goal

abbrev pub invariant-loop-i : goal.invariant-loop-i
invariant-loop-i l =
    (length l.one ≡ length l.initial.one) × (length l.bytes ≡ length l.initial.bytes) × Walking (buffers_of l.read) l.c l.steps l.wanted l.room (length l.initial.ends) l.bytes l.ends l.i l.end
