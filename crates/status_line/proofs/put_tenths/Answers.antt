-- `put_tenths` meets its contract.
use Rattle.text_buffer.proofs.Parts.{open_on}
use Rattle.status_line.proofs.Decimal.{after_over, tenths_is, tenths_on}
use Rattle.status_line.proofs.put_tenths.Goals as goal

pub returns-then-next-gt-TEXT : goal.returns-then-next-gt-TEXT
returns-then-next-gt-TEXT c = after_over _ (tenths_is c.args.n) c.put_decimal-next.ensures c.if-next-gt-TEXT.true

pub put_bytes-requires : goal.put_bytes-requires
put_bytes-requires c = open_on c.put_decimal-next.ensures c.if-next-gt-TEXT.false c.requires

pub returns : goal.returns
returns c = tenths_on c.args.n c.digit.ensures c.put_decimal-next.ensures c.if-next-gt-TEXT.false c.put_bytes.ensures
