-- `text_memo::put_again` meets its contract.
use mathlib.Core.Path.{refl}
use Rattle.text_memo.proofs.Again.{copy_begin, copy_on, copy_over, copy_end}
use Rattle.text_memo.proofs.put_again.Goals as goal

pub loop-i-init : goal.loop-i-init
loop-i-init c = copy_begin c.requires

pub returns-then-n-gt-TEXT : goal.returns-then-n-gt-TEXT
returns-then-n-gt-TEXT c = copy_over c.loop-i.invariant c.loop-i-test.true refl c.put_byte-n.ensures c.if-n-gt-TEXT.true

pub loop-i-preserved : goal.loop-i-preserved
loop-i-preserved c = copy_on c.loop-i.invariant c.loop-i-test.true refl c.put_byte-n.ensures c.if-n-gt-TEXT.false

pub returns : goal.returns
returns c = copy_end c.loop-i.invariant c.loop-i-test.false
