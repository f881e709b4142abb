-- `run_columns::copy_depths` meets its contract.
use native.Mathlib.Omega.{arith}
use Rattle.run_columns.proofs.Answers.{depths_begin, depths_more, depths_end}
use Rattle.run_columns.proofs.copy_depths.Goals as goal

pub loop-i-init : goal.loop-i-init
loop-i-init c = depths_begin

pub loop-i-preserved : goal.loop-i-preserved
loop-i-preserved c = depths_more c.loop-i.invariant (omega arith) c.number_at.ensures

pub shape_of-room : goal.shape_of-room
shape_of-room c = c.loop-i.invariant.long

pub returns : goal.returns
returns c = depths_end c.loop-i.invariant (omega arith)
