-- `scan_bundle::record_name` meets its contract.
use mathlib.Core.Path.{sym, ◌∙◌}
use native.Mathlib.Omega.{arith}
use Rattle.scan_bundle.proofs.Lying.{record_lies, name_at_law}
use Rattle.scan_bundle.proofs.record_name.Goals as goal

pub overflow_mul-k : goal.overflow_mul-k
overflow_mul-k c = let y = record_lies _ c.requires.laid_bundle _ c.requires.k_bound in omega (arith, y.within, y.room)

pub overflow_add-k : goal.overflow_add-k
overflow_add-k c = let y = record_lies _ c.requires.laid_bundle _ c.requires.k_bound in omega (arith, y.within, y.room)

pub part_at-requires : goal.part_at-requires
part_at-requires c = (record_lies _ c.requires.laid_bundle _ c.requires.k_bound).name

pub returns : goal.returns
returns c = c.part_at.ensures ∙ sym (name_at_law _ _ c.requires.k_bound)
