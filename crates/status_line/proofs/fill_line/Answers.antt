-- `fill_line` meets its contract.
use Rattle.status_line.proofs.Filling.{fill_over, fill_fits}
use Rattle.status_line.proofs.fill_line.Goals as goal

pub put_line-n-requires : goal.put_line-n-requires
put_line-n-requires c = c.requires

pub returns-then-n-gt-TEXT : goal.returns-then-n-gt-TEXT
returns-then-n-gt-TEXT c = fill_over c.put_line-n.ensures c.if-n-gt-TEXT.true c.zero_bytes_from.ensures

pub returns : goal.returns
returns c = fill_fits c.put_line-n.ensures c.if-n-gt-TEXT.false c.zero_bytes_from-2.ensures
