-- `windows::compare_end` meets its contract: the last window decides, then the lengths.
use mathlib.Core.Path.{◌∙◌}
use native.Mathlib.Omega.{arith}
use Rattle.windows.proofs.Windows.{end_order}
use Rattle.windows.proofs.compare_end.Goals as goal

pub returns : goal.returns
returns c = c.then.ensures ∙ end_order c.requires c.type_inv.a c.type_inv.b (omega arith) (omega arith) c.high_long-x.ensures c.high_long-y.ensures _ _ c.cmp.ensures c.cmp-2.ensures
