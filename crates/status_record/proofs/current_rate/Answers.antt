-- `current_rate` meets its contract.
use borrow.Author.Tests.{eq-eqb, ne_eqb}
use Rattle.status_record.specs.Record.{current_of}
use Rattle.status_record.proofs.current_rate.Goals as goal

pub returns-then-n-eq0 : goal.returns-then-n-eq0
unfolding current_of
returns-then-n-eq0 c = rw (eq-eqb c.args.n 0 c.if-n-eq0.true)

pub returns : goal.returns
unfolding current_of
returns c = rw (ne_eqb c.args.n 0 c.if-n-eq0.false) (rw (c.rate_over.ensures, c.seconds.ensures))
