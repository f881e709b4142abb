-- `plan::run` meets its contract.
use Prim.Native.Nat.{ℕ}
use mathlib.Core.Path.{sym}
use lib.ListN.{length-replicate}
use Rattle.plan.proofs.Rooms.{roomy, room_alone}
use Rattle.plan.proofs.run.Goals as goal

pub slice_bounds-lend_alone-end : goal.slice_bounds-lend_alone-end
slice_bounds-lend_alone-end g c = sym (length-replicate {A = ℕ} 49196 0)

pub lend_alone-n-requires : goal.lend_alone-n-requires
lend_alone-n-requires g c = room_alone (length-replicate {A = ℕ} 49196 0)

pub slice_bounds-bundle-end : goal.slice_bounds-bundle-end
slice_bounds-bundle-end g c = c.lend_alone-n.ensures.counts.0

pub slice_bounds-answer-end : goal.slice_bounds-answer-end
slice_bounds-answer-end g c = c.lend_alone-n.ensures.counts.1

pub slice_bounds-answer-end-2 : goal.slice_bounds-answer-end-2
slice_bounds-answer-end-2 g c = sym (length-replicate {A = ℕ} 512 0)

pub slice_bounds-answer-end-3 : goal.slice_bounds-answer-end-3
slice_bounds-answer-end-3 g c = sym (length-replicate {A = ℕ} 262144 0)

pub slice_bounds-answer-end-4 : goal.slice_bounds-answer-end-4
slice_bounds-answer-end-4 g c = sym (length-replicate {A = ℕ} 512 0)

pub slice_bounds-answer-end-5 : goal.slice_bounds-answer-end-5
slice_bounds-answer-end-5 g c = sym (length-replicate {A = ℕ} 285184 0)

pub answer-requires : goal.answer-requires
answer-requires g c = roomy (length-replicate {A = ℕ} 512 0) (length-replicate {A = ℕ} 262144 0) (length-replicate {A = ℕ} 512 0) (length-replicate {A = ℕ} 285184 0)

pub returns : goal.returns
returns g c = tt
