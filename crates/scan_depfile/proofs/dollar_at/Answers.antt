-- `scan_depfile::dollar_at` meets its contract.
use Rattle.scan_depfile.specs.Answers.{MarkAt}
use Rattle.scan_depfile.proofs.Places.{last_dollar, dollars_here, lone_here}
use Rattle.scan_depfile.proofs.dollar_at.Goals as goal

pub returns-then-s-next : goal.returns-then-s-next
unfolding MarkAt
returns-then-s-next c = last_dollar c.args.s.now c.args.i c.requires.0 c.if-s-next.true c.requires.1

pub returns-then-c-eq36 : goal.returns-then-c-eq36
unfolding MarkAt
returns-then-c-eq36 c = dollars_here c.args.s.now c.args.i c.requires.0 c.if-s-next.false c.requires.1 c.if-c-eq36.true

pub returns : goal.returns
unfolding MarkAt
returns c = lone_here c.args.s.now c.args.i c.requires.0 c.if-s-next.false c.requires.1 c.if-c-eq36.false
