-- `hold_parts::mentions_part` meets its contract.
use mathlib.Core.Path.{sym}
use native.Mathlib.Omega.{arith}
use lib.Seq.{length-take-le}
use Rattle.hold_parts.proofs.mentions_part.Goals as goal

pub slice_bounds-result-end : goal.slice_bounds-result-end
slice_bounds-result-end c = let a = c.requires in sym (length-take-le _ _ (omega (arith, a.few_paths, a.long)))
