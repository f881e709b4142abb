-- `scan_numbers::word` meets its contract.
use Rattle.scan_numbers.proofs.Endian.{word_is}
use Rattle.scan_numbers.proofs.word.Goals as goal

pub returns : goal.returns
returns c = rw c.from_le_bytes.ensures (word_is _ _ c.requires c.type_inv.s)
