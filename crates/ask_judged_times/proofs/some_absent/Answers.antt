-- `ask_judged_times::some_absent` meets its contract.
use Rattle.hold_columns.proofs.Looking.{look_begin, look_more, look_found, look_end}
use Rattle.ask_judged_times.proofs.Forcing.{with_maker, absent_there, present_there, none_absent}
use Rattle.ask_judged_times.proofs.some_absent.Goals as goal

pub loop-f-init : goal.loop-f-init
loop-f-init c = look_begin _

pub at-requires : goal.at-requires
at-requires c = c.requires.low c.loop-f.f-index c.loop-f-test.true

pub loop-f-preserved-then-at-ne0 : goal.loop-f-preserved-then-at-ne0
loop-f-preserved-then-at-ne0 c = look_more c.loop-f.invariant c.loop-f-test.true (with_maker _ _ _ _ c.at.ensures c.if-at-ne0.true)

pub time-requires : goal.time-requires
time-requires c = rw c.requires.timed (c.requires.low c.loop-f.f-index c.loop-f-test.true)

pub returns-then-time-eq0 : goal.returns-then-time-eq0
returns-then-time-eq0 c = look_found c.loop-f.invariant c.loop-f-test.true (absent_there _ _ _ _ c.at.ensures c.if-at-ne0.false c.time.ensures c.if-time-eq0.true)

pub loop-f-preserved : goal.loop-f-preserved
loop-f-preserved c = look_more c.loop-f.invariant c.loop-f-test.true (present_there _ _ _ _ c.at.ensures c.if-at-ne0.false c.time.ensures c.if-time-eq0.false)

pub returns : goal.returns
returns c = look_end c.loop-f.invariant c.loop-f-test.false (none_absent _ _)
