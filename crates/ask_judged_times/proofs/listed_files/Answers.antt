-- `ask_judged_times::listed_files` meets its contract.
use Rattle.ask_judged_times.specs.Lists.{listed_part}
use Rattle.ask_judged_times.proofs.listed_files.Goals as goal

pub returns : goal.returns
unfolding listed_part
returns c = rw (c.at.ensures, c.end_at-to.ensures)
