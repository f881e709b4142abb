-- `run_columns::start_at` meets its contract.
use Prim.Native.Nat.{ℕ}
use mathlib.Core.Path.{sym}
use lib.ListN.{length-replicate}
use Rattle.run_columns.proofs.Answers.{start_spaced}
use Rattle.run_columns.proofs.start_at.Goals as goal

pub slice_bounds-copy_depths-end : goal.slice_bounds-copy_depths-end
slice_bounds-copy_depths-end c = sym (length-replicate {A = ℕ} 66 0)

pub copy_depths-requires : goal.copy_depths-requires
copy_depths-requires c = tt

pub start_in-requires : goal.start_in-requires
start_in-requires c = tt

pub returns : goal.returns
returns c = start_spaced _ _ _ _ (length-replicate {A = ℕ} 2048 0) (length-replicate {A = ℕ} 66 0) c.copy_depths.ensures c.start_in.ensures.promise
