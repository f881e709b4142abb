-- `text_buffer::put_inside` meets its contract.
use Rattle.text_buffer.proofs.Quoting.{inside_quote, inside_other}
use Rattle.text_buffer.proofs.put_inside.Goals as goal

pub returns-then-b-eq39 : goal.returns-then-b-eq39
returns-then-b-eq39 c = rw (inside_quote c.args.b c.if-b-eq39.true) c.put_bytes.ensures

pub returns : goal.returns
returns c = rw (inside_other c.args.b c.if-b-eq39.false) c.put_byte.ensures
