-- `windows::high_long` meets its contract.
use Rattle.windows.proofs.Windows.{high_long_is}
use Rattle.windows.proofs.high_long.Goals as goal

pub returns : goal.returns
returns c = high_long_is _ _ c.high_word-high.ensures c.high_word-low.ensures
