-- `ask_file_times::fill_times` meets its contract.
use Rattle.ask_file_times.proofs.Filling.{fill_begin, fill_more, fill_end}
use Rattle.ask_file_times.proofs.fill_times.Goals as goal

pub loop-f-init : goal.loop-f-init
loop-f-init c = fill_begin c.requires

pub loop-f-preserved : goal.loop-f-preserved
loop-f-preserved c = fill_more c.loop-f.invariant c.loop-f-test.true c.file_name.ensures c.time_of.ensures

pub returns : goal.returns
returns c = fill_end c.loop-f.invariant c.loop-f-test.false
