-- `text_buffer::put_in_quotes` meets its contract.
use Rattle.text_buffer.specs.Puts.{to_close}
use Rattle.text_buffer.proofs.Parts.{puts_over, puts_then, open_on}
use Rattle.text_buffer.proofs.put_in_quotes.Goals as goal

pub returns-then-n-gt-TEXT : goal.returns-then-n-gt-TEXT
returns-then-n-gt-TEXT c = puts_over c.put_byte-n.ensures c.if-n-gt-TEXT.true (to_close c.args.name.now)

pub put_to_close-requires : goal.put_to_close-requires
put_to_close-requires c = open_on c.put_byte-n.ensures c.if-n-gt-TEXT.false c.requires

pub returns : goal.returns
returns c = puts_then c.put_byte-n.ensures c.if-n-gt-TEXT.false c.put_to_close.ensures
