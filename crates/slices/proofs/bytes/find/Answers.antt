-- `slices::bytes::find` meets its contract.
use mathlib.Core.Bool.{not}
use mathlib.Core.Path.{ap}
use borrow.Author.Tests.{eq-eqb, ne_eqb}
use Rattle.lists.specs.Runs.{scan_begin, scan_more, scan_stop, scan_all}
use Rattle.slices.proofs.bytes.find.Goals as goal

pub loop-i-init : goal.loop-i-init
loop-i-init c = scan_begin c.requires

pub returns-then-s-i : goal.returns-then-s-i
returns-then-s-i c = scan_stop c.loop-i.invariant c.loop-i-test.true (ap not (eq-eqb _ _ c.if-s-i.true))

pub loop-i-preserved : goal.loop-i-preserved
loop-i-preserved c = scan_more c.loop-i.invariant c.loop-i-test.true (ap not (ne_eqb _ _ c.if-s-i.false))

pub returns : goal.returns
returns c = scan_all c.loop-i.invariant c.loop-i-test.false
