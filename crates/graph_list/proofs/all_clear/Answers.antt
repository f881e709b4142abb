-- `graph_list::all_clear` meets its contract.
use native.Mathlib.Omega.{arith}
use Rattle.hold_columns.proofs.Makers.{maker_low}
use Rattle.hold_columns.proofs.Looking.{look_begin, look_more, look_found, look_end}
use Rattle.graph_list.proofs.Looks.{clear_none, clear_not, clear_more, clear_end}
use Rattle.graph_list.proofs.all_clear.Goals as goal

pub loop-i-init : goal.loop-i-init
loop-i-init c = look_begin _

pub maker-m-requires : goal.maker-m-requires
maker-m-requires c = (c.loop-i-test.true, c.requires.low c.loop-i.i c.loop-i-test.true)

pub loop-i-preserved-then-m-eq0 : goal.loop-i-preserved-then-m-eq0
loop-i-preserved-then-m-eq0 c = look_more c.loop-i.invariant c.loop-i-test.true (clear_none _ _ _ _ c.maker-m.ensures c.if-m-eq0.true)

pub at-requires : goal.at-requires
at-requires c = omega (arith, maker_low c.requires c.loop-i-test.true c.maker-m.ensures)

pub returns-then-at-ne1 : goal.returns-then-at-ne1
returns-then-at-ne1 c = look_found c.loop-i.invariant c.loop-i-test.true (clear_not _ _ _ _ c.maker-m.ensures c.if-m-eq0.false c.at.ensures c.if-at-ne1.true)

pub loop-i-preserved : goal.loop-i-preserved
loop-i-preserved c = look_more c.loop-i.invariant c.loop-i-test.true (clear_more _ _ _ _ c.maker-m.ensures c.if-m-eq0.false c.at.ensures c.if-at-ne1.false)

pub returns : goal.returns
returns c = look_end c.loop-i.invariant c.loop-i-test.false (clear_end _ _)
