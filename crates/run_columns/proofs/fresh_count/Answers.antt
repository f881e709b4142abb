-- `run_columns::fresh_count` meets its contract.
use borrow.Author.Tests.{le-leb, lt-leb}
use Rattle.run_columns.specs.Fresh.{fresh_count}
use Rattle.run_columns.proofs.fresh_count.Goals as goal

pub returns-then-n-m : goal.returns-then-n-m
unfolding fresh_count
returns-then-n-m c = rw (le-leb c.args.n c.args.m c.if-n-m.true)

pub returns : goal.returns
unfolding fresh_count
returns c = rw (lt-leb c.args.n c.args.m c.if-n-m.false)
