-- `printing::put` meets its contract.
use mathlib.Core.Path.{refl}
use Rattle.printing.proofs.Putting.{put_law}
use borrow.Author.Rules.{rules}
use Rattle.printing.proofs.put.Goals as goal

pub returns : goal.returns
returns c = put_law _ _ _ _ _ (search rules) c.copy_at.ensures refl
