-- `scan_dollars::braced` meets its contract.
use native.Mathlib.Omega.{arith}
use Rattle.lists.specs.Runs.{scan_begin, scan_more, scan_stop, scan_end}
use Rattle.scan_classes.proofs.Sorted.{sorted, in_class, not_in_class}
use Rattle.scan_tokens.proofs.Names.{range_below, range_above, range_in, name_run}
use Rattle.scan_dollars.specs.Element.{TellsElement}
use Rattle.scan_dollars.proofs.Elements.{braced_open, braced_other, braced_empty, braced_name}
use Rattle.scan_dollars.proofs.braced.Goals as goal
use Rattle.scan_dollars.proofs.braced.Goals.{then-k-lt-SHORT-via-then-k-lt-SHORT, then-k-lt-SHORT-via-else-k-lt-SHORT+then-k-gt-DOT}

pub loop-i-init : goal.loop-i-init
loop-i-init c = scan_begin c.requires.1

pub returns-then-i-from : goal.returns-then-i-from
unfolding TellsElement
returns-then-i-from c = braced_empty (name_run (scan_stop c.loop-i.invariant c.loop-i-test.true (range_above _ 2 c.class_in-k.ensures (omega (arith, c.if-k-eq-CLOSE_BRACE.true)) (omega (arith, c.if-k-eq-CLOSE_BRACE.true))))) c.loop-i-test.true (in_class (sorted _).close_brace c.class_in-k.ensures c.if-k-eq-CLOSE_BRACE.true) c.if-i-from.true

pub returns-then-k-eq-CLOSE_BRACE : goal.returns-then-k-eq-CLOSE_BRACE
unfolding TellsElement
returns-then-k-eq-CLOSE_BRACE c = braced_name (name_run (scan_stop c.loop-i.invariant c.loop-i-test.true (range_above _ 2 c.class_in-k.ensures (omega (arith, c.if-k-eq-CLOSE_BRACE.true)) (omega (arith, c.if-k-eq-CLOSE_BRACE.true))))) c.loop-i-test.true (in_class (sorted _).close_brace c.class_in-k.ensures c.if-k-eq-CLOSE_BRACE.true) c.if-i-from.false

pub returns-then-k-lt-SHORT : goal.returns-then-k-lt-SHORT
unfolding TellsElement
returns-then-k-lt-SHORT c =
    braced_other
    (name_run (scan_stop c.loop-i.invariant c.loop-i-test.true (elim c.then-k-lt-SHORT.branch [
      | then-k-lt-SHORT-via-then-k-lt-SHORT w ↦ range_below _ 2 c.class_in-k.ensures w.if-k-lt-SHORT.true
      | then-k-lt-SHORT-via-else-k-lt-SHORT+then-k-gt-DOT w ↦ range_above _ 2 c.class_in-k.ensures w.if-k-lt-SHORT.false w.if-k-gt-DOT.true
    ])))
    c.loop-i-test.true
    (not_in_class (sorted _).close_brace c.class_in-k.ensures c.if-k-eq-CLOSE_BRACE.false)

pub loop-i-preserved : goal.loop-i-preserved
loop-i-preserved c = scan_more c.loop-i.invariant c.loop-i-test.true (range_in _ 2 c.class_in-k.ensures c.if-k-lt-SHORT.false c.if-k-gt-DOT.false)

pub returns : goal.returns
unfolding TellsElement
returns c = braced_open (name_run (scan_end c.loop-i.invariant c.loop-i-test.false)) c.loop-i-test.false
