-- `scan_lines::comment_end` meets its contract.
use mathlib.Core.Path.{refl}
use Rattle.spec.specs.Lines.{comment, ends_line}
use Rattle.scan_lines.specs.Endings.{EndAt}
use Rattle.scan_tokens.proofs.Places.{going_begin}
use Rattle.scan_lines.proofs.Ends.{open_end, line_ends, comment_more}
use Rattle.scan_lines.proofs.comment_end.Goals as goal

pub loop-i-init : goal.loop-i-init
loop-i-init c = going_begin c.requires

pub returns-then-m-i-eq10 : goal.returns-then-m-i-eq10
unfolding EndAt ends_line
returns-then-m-i-eq10 c = (refl, line_ends comment c.loop-i.invariant refl c.loop-i-test.true c.if-m-i-eq10.true)

pub loop-i-preserved : goal.loop-i-preserved
loop-i-preserved c = comment_more c.loop-i.invariant c.loop-i-test.true c.if-m-i-eq10.false

pub returns : goal.returns
unfolding EndAt
returns c = open_end comment c.loop-i.invariant c.loop-i-test.false
