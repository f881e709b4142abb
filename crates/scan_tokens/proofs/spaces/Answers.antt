-- `scan_tokens::spaces` meets its contract.
use borrow.Author.Tests.{eq-eqb, ne_eqb}
use Rattle.lists.specs.Runs.{scan_begin, scan_more, scan_stop}
use Rattle.scan_tokens.proofs.Places.{scan_all}
use Rattle.scan_tokens.proofs.spaces.Goals as goal

pub loop-i-init : goal.loop-i-init
loop-i-init c = scan_begin c.requires

pub returns-then-s-i-ne32 : goal.returns-then-s-i-ne32
returns-then-s-i-ne32 c = scan_stop c.loop-i.invariant c.loop-i-test.true (ne_eqb _ _ c.if-s-i-ne32.true)

pub loop-i-preserved : goal.loop-i-preserved
loop-i-preserved c = scan_more c.loop-i.invariant c.loop-i-test.true (eq-eqb _ _ c.if-s-i-ne32.false)

pub returns : goal.returns
returns c = scan_all c.loop-i.invariant c.loop-i-test.false
