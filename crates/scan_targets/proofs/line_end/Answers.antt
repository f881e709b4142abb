-- `scan_targets::line_end` meets its contract: a scan for a newline.
use Rattle.lists.specs.Runs.{scan_begin, scan_more, scan_stop, scan_all}
use Rattle.scan_targets.proofs.Runs.{is_other, is_newline}
use Rattle.scan_targets.proofs.line_end.Goals as goal

pub loop-i-init : goal.loop-i-init
loop-i-init c = scan_begin c.requires

pub returns-then-t-i-eq10 : goal.returns-then-t-i-eq10
returns-then-t-i-eq10 c = scan_stop c.loop-i.invariant c.loop-i-test.true (is_newline _ c.if-t-i-eq10.true)

pub loop-i-preserved : goal.loop-i-preserved
loop-i-preserved c = scan_more c.loop-i.invariant c.loop-i-test.true (is_other _ c.if-t-i-eq10.false)

pub returns : goal.returns
returns c = scan_all c.loop-i.invariant c.loop-i-test.false
