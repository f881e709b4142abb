-- `run_table::gather` meets its contract.
use Rattle.run_table.proofs.Turns.{noting_begin, noting_more}
use Rattle.run_table.proofs.gather.Goals as goal

pub loop-i-init : goal.loop-i-init
loop-i-init c = noting_begin

pub loop-i-preserved : goal.loop-i-preserved
loop-i-preserved c = noting_more c.loop-i.invariant c.loop-i-test.true c.note.ensures
