-- `windows::high_word` meets its contract.
use Rattle.windows.proofs.Windows.{high_word_is}
use Rattle.windows.proofs.high_word.Goals as goal

pub returns : goal.returns
returns c = rw c.from_be_bytes.ensures (high_word_is _ _ c.type_inv.s)
