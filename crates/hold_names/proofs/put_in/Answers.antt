-- `hold_names::put_in` meets its contract.
use native.Mathlib.Omega.{arith}
use Rattle.hold_names.proofs.Lifting.{put_in}
use Rattle.hold_names.proofs.put_in.Goals as goal

pub returns : goal.returns
returns c = (omega (arith, c.at-n.ensures), rw (c.put-2.ensures, c.put.ensures) (put_in c.args.index.now c.args.count c.args.block c.args.place _ c.requires.0 c.requires.2 c.requires.3 c.requires.4 c.at-n.ensures c.make_room.ensures))
