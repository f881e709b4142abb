-- `start_at` meets its contract.
use borrow.Author.Tests.{le-leb, lt-leb}
use Rattle.status_record.specs.Record.{start_at}
use Rattle.status_record.proofs.start_at.Goals as goal

pub returns-then-s : goal.returns-then-s
unfolding start_at
returns-then-s c = rw (le-leb c.args.s.total c.args.s.started c.if-s.true)

pub returns : goal.returns
unfolding start_at
returns c = rw (lt-leb c.args.s.total c.args.s.started c.if-s.false) (rw (c.moved_to.ensures, c.counting.ensures))
