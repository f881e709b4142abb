-- `finish_at` meets its contract.
use borrow.Author.Tests.{eq-eqb, ne_eqb}
use Rattle.status_record.specs.Record.{finish_at}
use Rattle.status_record.proofs.finish_at.Goals as goal

pub returns-then-s-eq0 : goal.returns-then-s-eq0
unfolding finish_at
returns-then-s-eq0 c = rw (eq-eqb c.args.s.running 0 c.if-s-eq0.true)

pub returns : goal.returns
unfolding finish_at
returns c = rw (ne_eqb c.args.s.running 0 c.if-s-eq0.false) (rw (c.finish_noted.ensures, c.moved_to.ensures, c.counting.ensures))
