use Prim.Native.Nat.{◌-◌}
use lib.ListN.{length}
use Rattle.apply_mentions.proofs.Passing.{Passing}
use Rattle.hold_reading.specs.Buffers.{buffers}
use Rattle.apply_mentions.proofs.mention_all.Given as goal

abbrev pub invariant-loop-from : goal.invariant-loop-from
invariant-loop-from l = Passing l.t l.l l.at (buffers l.initial.names l.initial.index l.texts l.bind l.initial.graph) l.initial.word l.initial.d l.names l.index l.graph l.word l.i l.d

abbrev pub decreases-loop-from : goal.decreases-loop-from
decreases-loop-from l = length l.l - l.i
