-- `apply_step_columns::put_step` meets its contract.
use native.Mathlib.Omega.{arith}
use Rattle.apply_files.proofs.Columns.{graph_long}
use Rattle.apply_step_columns.proofs.Making.{put_make, put_first, put_second, put_done}
use Rattle.apply_step_columns.proofs.put_step.Goals as goal

pub step_end-to-requires : goal.step_end-to-requires
step_end-to-requires c = let a = c.requires in omega (arith, a.ready.few, graph_long a.laid)

pub make-requires : goal.make-requires
make-requires c = put_make c.step_end-to.ensures c.requires

pub put-requires : goal.put-requires
put-requires c = put_first c.step_end-to.ensures c.make.ensures c.phony_bit.ensures c.requires

pub overflow_mul-scope : goal.overflow_mul-scope
overflow_mul-scope c = let a = c.requires in omega (arith, a.few)

pub overflow_add-scope : goal.overflow_add-scope
overflow_add-scope c = let a = c.requires in omega (arith, a.few, a.small)

pub put-requires-2 : goal.put-requires-2
put-requires-2 c = put_second c.step_end-to.ensures c.make.ensures c.phony_bit.ensures c.put.ensures c.requires

pub returns : goal.returns
returns c = put_done c.step_end-to.ensures c.make.ensures c.phony_bit.ensures c.put.ensures c.put-2.ensures
