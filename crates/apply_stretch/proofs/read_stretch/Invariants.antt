use Prim.Native.Nat.{◌-◌, ◌≤◌}
use lib.ListN.{length}
use Rattle.spec.specs.Manifest.{Opener}
use Rattle.hold_reading.specs.Buffers.{buffers}
use Rattle.std.specs.Prelude.{Ok}
use Rattle.apply_stretch.specs.Stretches.{LinesDone}
use Rattle.apply_stretch.proofs.Each.{Same}
use Rattle.apply_stretch.proofs.read_stretch.Given as goal

abbrev pub invariant-loop-k : goal.invariant-loop-k
invariant-loop-k l =
    Same (buffers l.initial.names l.initial.index l.initial.texts l.initial.bind l.initial.graph) l.initial.word (buffers l.names l.index l.texts l.bind l.graph) l.word × (l.initial.k ≤ l.k) × ((via : Opener) → LinesDone via l.p.base l.m l.found l.initial.k (buffers l.initial.names l.initial.index l.initial.texts l.initial.bind l.initial.graph) l.initial.kept.counts l.initial.kept.«open» (buffers l.names l.index l.texts l.bind l.graph) (Ok l.kept) l.k)

abbrev pub decreases-loop-k : goal.decreases-loop-k
decreases-loop-k l = length l.found - l.k
