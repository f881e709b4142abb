-- `scan_tokens::class_run` meets its contract.
use Rattle.lists.specs.Runs.{scan_begin, scan_more, scan_stop}
use Rattle.scan_tokens.proofs.Places.{scan_all}
use Rattle.scan_tokens.proofs.Names.{range_below, range_above, range_in}
use Rattle.scan_tokens.proofs.class_run.Goals as goal
use Rattle.scan_tokens.proofs.class_run.Goals.{then-k-lt-SHORT-via-then-k-lt-SHORT, then-k-lt-SHORT-via-else-k-lt-SHORT+then-last-k}

pub loop-i-init : goal.loop-i-init
loop-i-init c = scan_begin c.requires.1

pub returns-then-k-lt-SHORT : goal.returns-then-k-lt-SHORT
returns-then-k-lt-SHORT c =
    scan_stop c.loop-i.invariant c.loop-i-test.true
    (elim c.then-k-lt-SHORT.branch [
      | then-k-lt-SHORT-via-then-k-lt-SHORT w ↦ range_below _ _ c.class_in-k.ensures w.if-k-lt-SHORT.true
      | then-k-lt-SHORT-via-else-k-lt-SHORT+then-last-k w ↦ range_above _ _ c.class_in-k.ensures w.if-k-lt-SHORT.false w.if-last-k.true
    ])

pub loop-i-preserved : goal.loop-i-preserved
loop-i-preserved c = scan_more c.loop-i.invariant c.loop-i-test.true (range_in _ _ c.class_in-k.ensures c.if-k-lt-SHORT.false c.if-last-k.false)

pub returns : goal.returns
returns c = scan_all c.loop-i.invariant c.loop-i-test.false
