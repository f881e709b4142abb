-- `scan_raw::manifest::bad_byte_in` meets its contract.
use Rattle.scan_raw.specs.Texts.{place_of}
use Rattle.scan_raw.proofs.Bytes.{check_begin, check_bad, check_more, check_ended, check_open}
use Rattle.scan_raw.proofs.manifest.bad_byte_in.Goals as goal

pub loop-i-init : goal.loop-i-init
loop-i-init c = check_begin

pub returns-then-class_in-eq-FORBIDDEN : goal.returns-then-class_in-eq-FORBIDDEN
unfolding place_of
returns-then-class_in-eq-FORBIDDEN c = check_bad c.loop-i.invariant c.loop-i-test.true c.class_in.ensures c.if-class_in-eq-FORBIDDEN.true

pub loop-i-preserved : goal.loop-i-preserved
loop-i-preserved c = check_more c.loop-i.invariant c.loop-i-test.true c.class_in.ensures c.if-class_in-eq-FORBIDDEN.false

pub returns-then-last-eq10 : goal.returns-then-last-eq10
unfolding place_of
returns-then-last-eq10 c = check_ended c.loop-i.invariant c.loop-i-test.false c.if-last-eq10.true

pub returns-else-last-eq10 : goal.returns-else-last-eq10
unfolding place_of
returns-else-last-eq10 c = check_open c.loop-i.invariant c.loop-i-test.false c.if-last-eq10.false
