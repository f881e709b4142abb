-- `apply_equal_outputs::has_equal_outputs` meets its contract.
use native.Mathlib.Omega.{arith}
use Rattle.apply_equal_outputs.proofs.Sorting.{lent_back}
use Rattle.apply_equal_outputs.proofs.has_equal_outputs.Goals as goal

pub returns : goal.returns
returns c = let s = c.requires.scratch in lent_back c.args.graph.now (omega arith) c.has_equal.ensures
