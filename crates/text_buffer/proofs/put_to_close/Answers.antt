-- `text_buffer::put_to_close` meets its contract.
use Rattle.text_buffer.proofs.Quoting.{close_begin, close_on, close_over, close_end}
use Rattle.text_buffer.proofs.put_to_close.Goals as goal

pub loop-b-init : goal.loop-b-init
loop-b-init c = close_begin c.args.name.now c.requires

pub returns-then-n-gt-TEXT : goal.returns-then-n-gt-TEXT
returns-then-n-gt-TEXT c = close_over c.loop-b.invariant c.loop-b-test.true c.put_inside-n.ensures c.if-n-gt-TEXT.true

pub loop-b-preserved : goal.loop-b-preserved
loop-b-preserved c = close_on c.loop-b.invariant c.loop-b-test.true c.put_inside-n.ensures c.if-n-gt-TEXT.false

pub returns : goal.returns
returns c = close_end c.loop-b.invariant c.loop-b-test.false c.put_byte.ensures
