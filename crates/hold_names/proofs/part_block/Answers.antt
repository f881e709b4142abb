-- `hold_names::part_block` meets its contract.
use Rattle.hold_names.proofs.Lifting.{parted}
use Rattle.hold_names.proofs.part_block.Goals as goal

pub returns : goal.returns
returns c = rw (c.put-3.ensures, c.put-2.ensures, c.put.ensures) (parted c.args.index.now c.args.block _ c.requires.0 c.at-last.ensures c.requires.2 c.requires.1 c.lift.ensures c.lift-2.ensures)
