-- `scan_lines::body_end` meets its contract.
use mathlib.Core.Path.{refl}
use Rattle.spec.specs.Lines.{body, ends_line}
use Rattle.scan_lines.specs.Endings.{EndAt}
use Rattle.scan_tokens.proofs.Places.{going_begin}
use Rattle.scan_lines.proofs.Ends.{open_end, line_ends, body_more, body_escape, body_dollar}
use Rattle.scan_lines.proofs.body_end.Goals as goal

pub loop-i-init : goal.loop-i-init
loop-i-init c = going_begin c.requires

pub returns-then-b-eq10 : goal.returns-then-b-eq10
unfolding EndAt ends_line
returns-then-b-eq10 c = (refl, line_ends body c.loop-i.invariant refl c.loop-i-test.true c.if-b-eq10.true)

pub returns-then-m-i : goal.returns-then-m-i
unfolding EndAt
returns-then-m-i c = body_dollar c.loop-i.invariant c.loop-i-test.true c.if-b-eq36.true c.if-m-i.true

pub loop-i-preserved-then-b-eq36 : goal.loop-i-preserved-then-b-eq36
loop-i-preserved-then-b-eq36 c = body_escape c.loop-i.invariant c.loop-i-test.true c.if-b-eq36.true c.if-m-i.false

pub loop-i-preserved : goal.loop-i-preserved
loop-i-preserved c = body_more c.loop-i.invariant c.loop-i-test.true c.if-b-eq10.false c.if-b-eq36.false

pub returns : goal.returns
unfolding EndAt
returns c = open_end body c.loop-i.invariant c.loop-i-test.false
