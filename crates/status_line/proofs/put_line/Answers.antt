-- `put_line` meets its contract.
use Rattle.status_line.proofs.Lining.{line_begin, line_on, line_over, line_end_law, line_open}
use Rattle.status_line.proofs.put_line.Goals as goal

pub loop-b-init : goal.loop-b-init
loop-b-init c = line_begin c.args.s _ c.requires

pub put_element-n-requires : goal.put_element-n-requires
put_element-n-requires c = line_open c.loop-b.invariant c.requires

pub returns-then-n-gt-TEXT : goal.returns-then-n-gt-TEXT
returns-then-n-gt-TEXT c = line_over c.loop-b.invariant c.loop-b-test.true c.put_element-n.ensures c.if-n-gt-TEXT.true

pub loop-b-preserved : goal.loop-b-preserved
loop-b-preserved c = line_on c.loop-b.invariant c.loop-b-test.true c.put_element-n.ensures c.if-n-gt-TEXT.false c.next_state-after.ensures

pub returns : goal.returns
returns c = line_end_law c.loop-b.invariant c.loop-b-test.false
