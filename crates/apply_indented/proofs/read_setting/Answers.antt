-- `apply_indented::read_setting` meets its contract.
use borrow.Author.Rules.{rules}
use Rattle.std.proofs.lemmas.Result.{err_from_is_err_and}
use native.Mathlib.Omega.{arith}
use Rattle.scan_cursor.specs.Spans.{line_of}
use Rattle.cut_refusals.proofs.Cut.{setting_told, wrong_told}
use Rattle.apply_indented.proofs.Outcomes.{line_applied, value_asks, wrong_setting}
use Rattle.apply_indented.proofs.read_setting.Goals as goal

pub raw_value-raw-requires : goal.raw_value-raw-requires
raw_value-raw-requires c = let s = setting_told (line_of _ _ _) c.cut_block_line.ensures c.in_ok-from.was in s.places.starts

pub slice_bounds-add_to_block-count : goal.slice_bounds-add_to_block-count
slice_bounds-add_to_block-count c = let s = setting_told (line_of _ _ _) c.cut_block_line.ensures c.in_ok-from.was in omega (arith, s.places.ordered)

pub slice_bounds-add_to_block-start : goal.slice_bounds-add_to_block-start
slice_bounds-add_to_block-start c = let s = setting_told (line_of _ _ _) c.cut_block_line.ensures c.in_ok-from.was in omega (arith, s.places.ordered)

pub slice_bounds-add_to_block-end : goal.slice_bounds-add_to_block-end
slice_bounds-add_to_block-end c = let s = setting_told (line_of _ _ _) c.cut_block_line.ensures c.in_ok-from.was in omega (arith, s.places.within)

pub add_to_block-requires : goal.add_to_block-requires
add_to_block-requires c = value_asks (line_of _ _ _) (setting_told (line_of _ _ _) c.cut_block_line.ensures c.in_ok-from.was) c.raw_value-raw.ensures c.requires

pub returns : goal.returns
returns c = record { space = search rules; promise = line_applied (line_of _ _ _) (setting_told (line_of _ _ _) c.cut_block_line.ensures c.in_ok-from.was) c.raw_value-raw.ensures c.add_to_block.ensures.promise }

pub returns-in_err-from : goal.returns-in_err-from
returns-in_err-from c = record { space = search rules; promise = let p = err_from_is_err_and c.from_residual.result c.from_residual.ensures.1 in rw (p.1, p.2) (wrong_setting (line_of _ _ _) (wrong_told (line_of _ _ _) c.cut_block_line.ensures c.in_err-from.was)) }
