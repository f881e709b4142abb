-- `printing::end_line` meets its contract.
use mathlib.Core.Path.{refl, ◌∙◌}
use lib.ListN.{length-set}
use Rattle.printing.proofs.Putting.{end_law}
use Rattle.printing.proofs.end_line.Goals as goal

pub shape_of-line : goal.shape_of-line
shape_of-line c = c.zero_bytes_from.auto.buf ∙ simp length-set

pub returns : goal.returns
returns c = end_law c.args.line.now _ c.args.from _ c.requires c.zero_bytes_from.ensures refl
