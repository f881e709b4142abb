-- `run_columns::finish_change` meets its contract.
use mathlib.Core.Path.{sym, ◌∙◌}
use lib.Seq.{length-take-le}
use Rattle.run_columns.proofs.Tables.{enough_room}
use Rattle.run_columns.proofs.Answers.{finish_long, finish_short}
use borrow.Author.Rules.{rules}
use Rattle.run_columns.proofs.finish_change.Goals as goal

pub overflow_mul-n : goal.overflow_mul-n
overflow_mul-n c = let r = enough_room _ _ (sym c.are_enough.ensures ∙ c.if-are_enough.true) in search rules

pub slice_bounds-finish_at-end : goal.slice_bounds-finish_at-end
slice_bounds-finish_at-end c = sym (length-take-le _ _ (enough_room _ _ (sym c.are_enough.ensures ∙ c.if-are_enough.true)))

pub returns-then-are_enough : goal.returns-then-are_enough
returns-then-are_enough c = finish_long _ _ c.are_enough.ensures _ _ c.if-are_enough.true c.finish_at.ensures

pub returns : goal.returns
returns c = finish_short _ _ c.are_enough.ensures _ _ c.if-are_enough.false c.no_change.ensures
