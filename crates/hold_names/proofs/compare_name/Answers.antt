-- `hold_names::compare_name` meets its contract.
use Prim.Native.Nat.{◌+◌}
use mathlib.Core.Path.{◌∙◌, ap}
use Rattle.hold_names.specs.Table.{compared_of}
use Rattle.hold_names.proofs.Halving.{compares_name}
use Rattle.hold_names.proofs.compare_name.Goals as goal

pub returns : goal.returns
returns c = compares_name c.file_name.ensures (c.counted.ensures ∙ ap (compared_of (c.args.n + 1)) c.compare.ensures)
