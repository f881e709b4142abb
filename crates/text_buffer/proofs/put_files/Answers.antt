-- `text_buffer::put_files` meets its contract.
use Rattle.spec.specs.Text.{spelled_by}
use Rattle.text_buffer.proofs.Joining.{join_begin, join_on, join_over, join_end}
use Rattle.text_buffer.proofs.put_files.Goals as goal

pub loop-i-init : goal.loop-i-init
loop-i-init c = join_begin c.args.separator (spelled_by c.args.plain) c.requires

pub returns-then-n-gt-TEXT : goal.returns-then-n-gt-TEXT
returns-then-n-gt-TEXT c = join_over c.loop-i.invariant c.loop-i-test.true c.put_next-n.ensures c.if-n-gt-TEXT.true

pub loop-i-preserved : goal.loop-i-preserved
loop-i-preserved c = join_on c.loop-i.invariant c.loop-i-test.true c.put_next-n.ensures c.if-n-gt-TEXT.false

pub returns : goal.returns
returns c = join_end c.loop-i.invariant c.loop-i-test.false
