-- `plan::write_steps` meets its contract.
use native.Mathlib.Omega.{arith}
use mathlib.Core.Path.{refl, sym, ◌∙◌}
use lib.Seq.{length-take-le}
use Rattle.printing.proofs.Putting.{leaves_within}
use Rattle.report.proofs.Rounds.{rounds_more, rounds_next}
use Rattle.plan.proofs.write_steps.Goals as goal

pub loop-place-init : goal.loop-place-init
loop-place-init g c = (refl, refl, refl, c.requires)

pub next_lines-made-requires : goal.next_lines-made-requires
next_lines-made-requires g c = record { more = c.loop-place-test.true; left = c.loop-place.invariant.3 }

pub slice_bounds-write-end : goal.slice_bounds-write-end
slice_bounds-write-end g c = leaves_within c.next_lines-made.auto.out c.next_lines-made.ensures.lines

pub slice_bounds-write-end-in-loop-place : goal.slice_bounds-write-end-in-loop-place
slice_bounds-write-end-in-loop-place g c = sym (length-take-le _ _ (leaves_within c.next_lines-made.auto.out c.next_lines-made.ensures.lines))

pub shape_of-bytes-then-not-write : goal.shape_of-bytes-then-not-write
shape_of-bytes-then-not-write g c = c.next_lines-made.auto.bytes ∙ c.loop-place.invariant.0

pub shape_of-ends-then-not-write : goal.shape_of-ends-then-not-write
shape_of-ends-then-not-write g c = c.next_lines-made.auto.ends ∙ c.loop-place.invariant.1

pub shape_of-out-then-not-write : goal.shape_of-out-then-not-write
shape_of-out-then-not-write g c = c.next_lines-made.auto.out ∙ c.loop-place.invariant.2

pub overflow_add-place : goal.overflow_add-place
overflow_add-place g c = omega (arith, rounds_more c.loop-place.invariant.3 c.next_lines-made.ensures)

pub loop-place-smaller : goal.loop-place-smaller
loop-place-smaller g c = omega (arith, rounds_more c.loop-place.invariant.3 c.next_lines-made.ensures)

pub loop-place-preserved : goal.loop-place-preserved
loop-place-preserved g c = (c.next_lines-made.auto.bytes ∙ c.loop-place.invariant.0, c.next_lines-made.auto.ends ∙ c.loop-place.invariant.1, c.next_lines-made.auto.out ∙ c.loop-place.invariant.2, rounds_next c.loop-place.invariant.3 c.next_lines-made.ensures c.next_lines-made.auto.bytes c.next_lines-made.auto.ends c.next_lines-made.auto.out)

pub shape_of-bytes : goal.shape_of-bytes
shape_of-bytes g c = c.loop-place.invariant.0

pub shape_of-ends : goal.shape_of-ends
shape_of-ends g c = c.loop-place.invariant.1

pub shape_of-out : goal.shape_of-out
shape_of-out g c = c.loop-place.invariant.2
