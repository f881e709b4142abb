-- `run_columns::fresh_number` meets its contract.
use borrow.Author.Tests.{le-leb, lt-leb}
use Rattle.run_columns.specs.Fresh.{fresh_number}
use Rattle.run_columns.proofs.fresh_number.Goals as goal

pub returns-then-n-m : goal.returns-then-n-m
unfolding fresh_number
returns-then-n-m c = rw (le-leb c.args.n c.args.m c.if-n-m.true)

pub returns : goal.returns
unfolding fresh_number
returns c = rw (lt-leb c.args.n c.args.m c.if-n-m.false)
