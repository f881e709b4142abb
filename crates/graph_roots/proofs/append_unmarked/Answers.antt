-- `graph_roots::append_unmarked` meets its contract.
use mathlib.Core.Path.{refl}
use Rattle.graph_roots.proofs.Appending.{append_begin, append_skip, append_more, append_end}
use Rattle.graph_roots.proofs.append_unmarked.Goals as goal

pub loop-f-init : goal.loop-f-init
loop-f-init c = append_begin

pub at-requires : goal.at-requires
at-requires c = c.requires.low c.loop-f.f-index c.loop-f-test.true

pub loop-f-preserved-then-at-eq1 : goal.loop-f-preserved-then-at-eq1
loop-f-preserved-then-at-eq1 c = append_skip c.loop-f.invariant c.loop-f-test.true refl c.at.ensures c.if-at-eq1.true

pub loop-f-preserved : goal.loop-f-preserved
loop-f-preserved c = append_more c.loop-f.invariant c.loop-f-test.true refl c.at.ensures c.if-at-eq1.false c.requires.room

pub shape_of-out : goal.shape_of-out
shape_of-out c = c.loop-f.invariant.long

pub returns : goal.returns
returns c = append_end c.loop-f.invariant c.loop-f-test.false
