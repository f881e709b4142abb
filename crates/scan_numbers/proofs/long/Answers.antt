-- `scan_numbers::long` meets its contract.
use Rattle.scan_numbers.proofs.Endian.{long_is}
use Rattle.scan_numbers.proofs.long.Goals as goal

pub returns : goal.returns
returns c = long_is _ _ c.requires c.word-low.ensures c.word-high.ensures
