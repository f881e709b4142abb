-- `hold_names::spare` meets its contract: a block that is full is parted.
use native.Mathlib.Omega.{arith}
use Rattle.hold_names.proofs.Blocks.{part_asked, spared_parted, spared_whole}
use Rattle.hold_names.proofs.spare.Goals as goal

pub put_in-requires : goal.put_in-requires
put_in-requires c = (c.requires.max_numbers_in_bounds.0, c.requires.max_numbers_in_bounds.1, omega (arith, c.requires.max_numbers_in_bounds.2, c.requires.shape.blocks), c.requires.max_numbers_in_bounds.3, c.requires.shape.few _ c.requires.max_numbers_in_bounds.2)

pub part_block-requires : goal.part_block-requires
part_block-requires c = part_asked c.put_in.ensures.1 c.put_in.ensures.0 c.requires.max_numbers_in_bounds.0 c.requires.shape c.requires.max_numbers_in_bounds.1 c.requires.max_numbers_in_bounds.2 c.if-put_in-eq127.true

pub returns-then-put_in-eq127 : goal.returns-then-put_in-eq127
returns-then-put_in-eq127 c = spared_parted c.put_in.ensures.1 c.put_in.ensures.0 c.if-put_in-eq127.true c.part_block.ensures

pub returns-else-put_in-eq127 : goal.returns-else-put_in-eq127
returns-else-put_in-eq127 c = spared_whole c.put_in.ensures.1 c.put_in.ensures.0 c.if-put_in-eq127.false
