-- `graph_sources::lowest_absent` meets its contract.
use mathlib.Core.Path.{refl}
use Rattle.graph_sources.proofs.Absent.{lower_begin, lower_more, lower_end}
use Rattle.graph_sources.proofs.lowest_absent.Goals as goal

pub loop-f-init : goal.loop-f-init
loop-f-init c = lower_begin

pub lower-low-requires : goal.lower-low-requires
lower-low-requires c = (c.requires.0 c.loop-f.f-index c.loop-f-test.true, c.requires.1)

pub loop-f-preserved : goal.loop-f-preserved
loop-f-preserved c = lower_more c.loop-f.invariant c.loop-f-test.true refl c.lower-low.ensures

pub returns : goal.returns
returns c = lower_end c.loop-f.invariant c.loop-f-test.false
