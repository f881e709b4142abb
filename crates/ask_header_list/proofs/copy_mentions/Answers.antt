-- `ask_header_list::copy_mentions` meets its contract.
use native.Mathlib.Omega.{arith}
use Rattle.ask_header_list.proofs.Copying.{copy_begin, copy_low, copy_more, copy_end}
use Rattle.ask_header_list.proofs.copy_mentions.Goals as goal

pub loop-i-init : goal.loop-i-init
loop-i-init c = copy_begin c.requires

pub at-requires : goal.at-requires
at-requires c = omega (arith, c.loop-i-test.true, c.requires.within)

pub put-requires : goal.put-requires
put-requires c = let l = copy_low c.loop-i.invariant c.loop-i-test.true in (l.0, rw c.at.ensures l.1)

pub loop-i-preserved : goal.loop-i-preserved
loop-i-preserved c = copy_more c.loop-i.invariant c.loop-i-test.true c.at.ensures c.put.ensures

pub shape_of-second : goal.shape_of-second
shape_of-second c = c.loop-i.invariant.long

pub returns : goal.returns
returns c = copy_end c.loop-i.invariant (omega (arith, c.loop-i-test.false))
