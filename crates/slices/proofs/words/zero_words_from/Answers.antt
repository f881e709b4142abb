-- `slices::words::zero_words_from` meets its contract.
use mathlib.Core.Path.{sym}
use Rattle.lists.specs.Fill.{zeroed_past}
use Rattle.slices.proofs.words.zero_words_from.Goals as goal

pub returns-else-from-n : goal.returns-else-from-n
returns-else-from-n c = sym (zeroed_past _ _ c.if-from-n.false)
