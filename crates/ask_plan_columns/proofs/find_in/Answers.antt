-- `ask_plan_columns::find_in` meets its contract.
use mathlib.Core.Path.{sym}
use native.Mathlib.Omega.{arith}
use lib.Seq.{length-take-le}
use Rattle.ask_plan_columns.proofs.Columns.{spread, choosable}
use borrow.Author.Rules.{rules}
use Rattle.ask_plan_columns.proofs.find_in.Goals as goal

pub slice_bounds-mentions-end : goal.slice_bounds-mentions-end
slice_bounds-mentions-end c = let s = spread c.requires.asked.tabled in sym (length-take-le _ _ (omega (arith, s.few_paths, s.long)))

pub overflow_mul-ends : goal.overflow_mul-ends
overflow_mul-ends c = let s = spread c.requires.asked.tabled in search rules

pub overflow_add-ends : goal.overflow_add-ends
overflow_add-ends c = let s = spread c.requires.asked.tabled in search rules

pub slice_bounds-ends-count : goal.slice_bounds-ends-count
slice_bounds-ends-count c = let s = spread c.requires.asked.tabled in search rules

pub slice_bounds-ends-start : goal.slice_bounds-ends-start
slice_bounds-ends-start c = let s = spread c.requires.asked.tabled in search rules

pub slice_bounds-ends-end : goal.slice_bounds-ends-end
slice_bounds-ends-end c = let s = spread c.requires.asked.tabled in search rules

pub overflow_add-phony : goal.overflow_add-phony
overflow_add-phony c = let s = spread c.requires.asked.tabled in search rules

pub slice_bounds-phony-count : goal.slice_bounds-phony-count
slice_bounds-phony-count c = let s = spread c.requires.asked.tabled in search rules

pub slice_bounds-phony-start : goal.slice_bounds-phony-start
slice_bounds-phony-start c = let s = spread c.requires.asked.tabled in search rules

pub slice_bounds-phony-end : goal.slice_bounds-phony-end
slice_bounds-phony-end c = let s = spread c.requires.asked.tabled in search rules

pub overflow_add-made : goal.overflow_add-made
overflow_add-made c = let s = spread c.requires.asked.tabled in search rules

pub slice_bounds-made-count : goal.slice_bounds-made-count
slice_bounds-made-count c = let s = spread c.requires.asked.tabled in search rules

pub slice_bounds-made-start : goal.slice_bounds-made-start
slice_bounds-made-start c = let s = spread c.requires.asked.tabled in search rules

pub slice_bounds-made-end : goal.slice_bounds-made-end
slice_bounds-made-end c = let s = spread c.requires.asked.tabled in search rules

pub overflow_add-defaults : goal.overflow_add-defaults
overflow_add-defaults c = let s = spread c.requires.asked.tabled in search rules

pub slice_bounds-defaults-count : goal.slice_bounds-defaults-count
slice_bounds-defaults-count c = let s = spread c.requires.asked.tabled in search rules

pub slice_bounds-defaults-start : goal.slice_bounds-defaults-start
slice_bounds-defaults-start c = let s = spread c.requires.asked.tabled in search rules

pub slice_bounds-defaults-end : goal.slice_bounds-defaults-end
slice_bounds-defaults-end c = let s = spread c.requires.asked.tabled in search rules

pub find_roots-requires : goal.find_roots-requires
find_roots-requires c = choosable c.requires

pub returns : goal.returns
returns c = record { space = record { long = (search rules) }; promise = record { found = c.find_roots.ensures.promise } }
