-- `apply_indented::read_key` meets its contract.
use borrow.Author.Rules.{rules}
use Rattle.std.proofs.lemmas.Result.{err_from_is_err_and}
use native.Mathlib.Omega.{arith}
use Rattle.scan_cursor.specs.Spans.{line_of}
use Rattle.cut_refusals.proofs.Cut.{setting_told, wrong_told}
use Rattle.apply_indented.proofs.Outcomes.{line_applied, wrong_key_law}
use Rattle.apply_indented.proofs.read_key.Goals as goal

pub raw_value-raw-requires : goal.raw_value-raw-requires
raw_value-raw-requires c = let s = setting_told (line_of _ _ _) c.cut_block_line.ensures c.in_ok-from.was in s.places.starts

pub slice_bounds-add_key-count : goal.slice_bounds-add_key-count
slice_bounds-add_key-count c = let s = setting_told (line_of _ _ _) c.cut_block_line.ensures c.in_ok-from.was in omega (arith, s.places.ordered)

pub slice_bounds-add_key-start : goal.slice_bounds-add_key-start
slice_bounds-add_key-start c = let s = setting_told (line_of _ _ _) c.cut_block_line.ensures c.in_ok-from.was in omega (arith, s.places.ordered)

pub slice_bounds-add_key-end : goal.slice_bounds-add_key-end
slice_bounds-add_key-end c = let s = setting_told (line_of _ _ _) c.cut_block_line.ensures c.in_ok-from.was in omega (arith, s.places.within)

pub returns : goal.returns
returns c = record { space = search rules; promise = line_applied (line_of _ _ _) (setting_told (line_of _ _ _) c.cut_block_line.ensures c.in_ok-from.was) c.raw_value-raw.ensures c.add_key.ensures.promise }

pub returns-in_err-from : goal.returns-in_err-from
returns-in_err-from c = record { space = search rules; promise = let p = err_from_is_err_and c.from_residual.result c.from_residual.ensures.1 in rw (p.1, p.2) (wrong_key_law (line_of _ _ _) (wrong_told (line_of _ _ _) c.cut_block_line.ensures c.in_err-from.was)) }
