-- `graph_order::next_open` meets its contract.
use Rattle.hold_columns.proofs.Makers.{maker_low}
use native.Mathlib.Omega.{arith}
use Rattle.graph_order.proofs.Opens.{opening, open_none, open_done, open_found, open_end}
use Rattle.graph_order.proofs.next_open.Goals as goal

pub loop-i-init : goal.loop-i-init
loop-i-init c = opening c.requires.1

pub maker-m-requires : goal.maker-m-requires
maker-m-requires c = (c.loop-i-test.true, c.requires.0.low c.loop-i.i c.loop-i-test.true)

pub loop-i-preserved-then-m-eq0 : goal.loop-i-preserved-then-m-eq0
loop-i-preserved-then-m-eq0 c = open_none c.loop-i.invariant c.loop-i-test.true c.maker-m.ensures c.if-m-eq0.true

pub at-requires : goal.at-requires
at-requires c = omega (arith, maker_low c.requires.0 c.loop-i-test.true c.maker-m.ensures)

pub returns-then-at-ne2 : goal.returns-then-at-ne2
returns-then-at-ne2 c = open_found c.loop-i.invariant c.loop-i-test.true c.maker-m.ensures c.at.ensures c.if-at-ne2.true c.if-m-eq0.false

pub loop-i-preserved : goal.loop-i-preserved
loop-i-preserved c = open_done c.loop-i.invariant c.loop-i-test.true c.maker-m.ensures c.at.ensures c.if-at-ne2.false

pub returns : goal.returns
returns c = open_end c.loop-i.invariant c.loop-i-test.false
