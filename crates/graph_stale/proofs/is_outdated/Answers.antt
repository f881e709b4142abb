-- `graph_stale::is_outdated` meets its contract.
use Rattle.hold_columns.proofs.Looking.{look_begin, look_more, look_found, look_end}
use Rattle.graph_stale.proofs.Times.{time_missing, time_older, time_kept, outdated_none}
use Rattle.graph_stale.proofs.is_outdated.Goals as goal

pub loop-f-init : goal.loop-f-init
loop-f-init c = look_begin _

pub time-u-requires : goal.time-u-requires
time-u-requires c = c.requires c.loop-f.f-index c.loop-f-test.true

pub returns-then-u-eq0 : goal.returns-then-u-eq0
returns-then-u-eq0 c = look_found c.loop-f.invariant c.loop-f-test.true (time_missing _ _ _ _ c.time-u.ensures c.if-u-eq0.true)

pub returns-then-u-t : goal.returns-then-u-t
returns-then-u-t c = look_found c.loop-f.invariant c.loop-f-test.true (time_older _ _ _ _ c.time-u.ensures c.if-u-eq0.false c.if-u-t.true)

pub loop-f-preserved : goal.loop-f-preserved
loop-f-preserved c = look_more c.loop-f.invariant c.loop-f-test.true (time_kept _ _ _ _ c.time-u.ensures c.if-u-eq0.false c.if-u-t.false)

pub returns : goal.returns
returns c = look_end c.loop-f.invariant c.loop-f-test.false (outdated_none _ _)
