-- `cut_lines::cut_indented` meets its contract.
use Rattle.cut_lines.proofs.Begins.{indented_is}
use Rattle.cut_lines.proofs.cut_indented.Goals as goal

pub returns : goal.returns
returns c = rw (indented_is c.spaces-from.ensures) c.cut_binding.ensures
