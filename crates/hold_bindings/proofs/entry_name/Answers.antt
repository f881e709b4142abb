-- `hold_bindings::entry_name` meets its contract.
use native.Mathlib.Omega.{arith}
use Rattle.hold_bindings.proofs.Entries.{row_of_law, row_at}
use Rattle.hold_bindings.proofs.entry_name.Goals as goal

pub slice_bounds-result-count : goal.slice_bounds-result-count
slice_bounds-result-count c = omega (arith, (row_of_law c.requires).named)

pub slice_bounds-result-start : goal.slice_bounds-result-start
slice_bounds-result-start c = omega (arith, (row_of_law c.requires).named)

pub slice_bounds-result-end : goal.slice_bounds-result-end
slice_bounds-result-end c = omega (arith, (row_of_law c.requires).valued, (row_of_law c.requires).ends, (row_of_law c.requires).texts_long)

pub returns : goal.returns
returns c = λ log count h b. rw (c.start-from.ensures, c.at-to.ensures) (row_at log c.args.k h b).name
