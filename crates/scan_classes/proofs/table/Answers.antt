-- `scan_classes::table` meets its contract.
use mathlib.Core.Path.{refl}
use Rattle.scan_classes.specs.Table.{classes}
use Rattle.scan_classes.proofs.table.Goals as goal

pub returns : goal.returns
unfolding classes
returns c = refl
