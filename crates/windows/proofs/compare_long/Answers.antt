-- `windows::compare_long` meets its contract: all windows before the one at hand are the same.
use native.Mathlib.Omega.{arith}
use Rattle.windows.proofs.Windows.{alike_none, alike_to_end, window_same, window_differs}
use Rattle.windows.proofs.compare_long.Goals as goal

pub loop-i-init : goal.loop-i-init
loop-i-init c = alike_none _ _

pub returns-then-x-y : goal.returns-then-x-y
returns-then-x-y c = window_differs c.loop-i.invariant c.type_inv.a c.type_inv.b (omega arith) (omega arith) c.high_long-x.ensures c.high_long-y.ensures c.if-x-y.true _ c.cmp.ensures

pub loop-i-preserved : goal.loop-i-preserved
loop-i-preserved c = window_same c.loop-i.invariant c.type_inv.a c.type_inv.b (omega arith) (omega arith) c.high_long-x.ensures c.high_long-y.ensures c.if-x-y.false

pub compare_end-requires : goal.compare_end-requires
compare_end-requires c = alike_to_end c.requires.0 c.requires.1 c.loop-i.invariant c.loop-i-test.false
