-- `apply_equal_outputs::is_taken` meets its contract.
use mathlib.Core.Path.{sym}
use native.Mathlib.Omega.{arith}
use lib.ListN.{length-take}
use lib.Seq.{length-take-le}
use Rattle.apply_equal_outputs.proofs.Sorting.{entry_small, path_taken, path_added}
use Rattle.apply_equal_outputs.proofs.is_taken.Goals as goal

pub slice_bounds-place_for-end-2 : goal.slice_bounds-place_for-end-2
slice_bounds-place_for-end-2 c = let r = c.requires.room in sym (length-take-le _ c.args.table.now (omega arith))

pub overflow_mul-from : goal.overflow_mul-from
overflow_mul-from c = let a = c.requires.path in omega (arith, a.forward, a.within, a.short)

pub overflow_add-from : goal.overflow_add-from
overflow_add-from c = let a = c.requires.path in omega (arith, a.forward, a.within, a.short)

pub insert-requires : goal.insert-requires
insert-requires c =
    let a = c.requires in
    (omega (arith, (c.place_for.ensures.free c.in-Some.is).within, length-take c.args.n c.args.table.now), a.room, entry_small a.path)

pub returns-in_default : goal.returns-in_default
returns-in_default c = path_taken (c.place_for.ensures.taken c.in_default.is)

pub returns : goal.returns
returns c = let a = c.requires in path_added (c.place_for.ensures.free c.in-Some.is) a.path a.sorted c.insert.ensures
