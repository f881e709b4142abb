-- `graph_stale::newest` meets its contract.
use mathlib.Core.Path.{refl}
use native.Mathlib.Omega.{arith}
use Rattle.std.proofs.lemmas.Grind.{common_steps}
use Rattle.graph_stale.proofs.Times.{newest_begin, newest_more, newest_end_law, file_asked}
use Rattle.graph_stale.proofs.newest.Goals as goal

pub loop-f-init : goal.loop-f-init
loop-f-init c = newest_begin

pub file_time-requires : goal.file_time-requires
file_time-requires c = file_asked c.requires c.loop-f-test.true refl

pub loop-f-preserved : goal.loop-f-preserved
loop-f-preserved c = newest_more c.loop-f.invariant c.loop-f-test.true refl c.file_time.ensures (grind (arith, common_steps))

pub returns : goal.returns
returns c = newest_end_law c.loop-f.invariant c.loop-f-test.false
