-- `graph_stale::file_time` meets its contract.
use Rattle.graph_stale.proofs.Times.{time_own, time_none, time_command, time_phony}
use Rattle.graph_stale.proofs.file_time.Goals as goal

pub returns-then-t-ne0 : goal.returns-then-t-ne0
returns-then-t-ne0 c = time_own _ _ _ _ _ c.time-t.ensures c.if-t-ne0.true

pub returns-then-m-eq0 : goal.returns-then-m-eq0
returns-then-m-eq0 c = time_none _ _ _ _ _ c.time-t.ensures c.if-t-ne0.false c.at-m.ensures c.if-m-eq0.true

pub returns-then-at-ne1 : goal.returns-then-at-ne1
returns-then-at-ne1 c = time_command _ _ _ _ _ c.time-t.ensures c.if-t-ne0.false c.at-m.ensures c.if-m-eq0.false c.at.ensures c.if-at-ne1.true

pub returns : goal.returns
returns c = time_phony _ _ _ _ _ c.time-t.ensures c.if-t-ne0.false c.at-m.ensures c.if-m-eq0.false c.at.ensures c.if-at-ne1.false c.time.ensures
