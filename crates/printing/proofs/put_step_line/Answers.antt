-- `printing::put_step_line` meets its contract.
-- src/lib.rt:129:9
use Rattle.printing.proofs.Putting.{step_law}
use Rattle.printing.proofs.put_step_line.Goals as goal

-- src/lib.rt:130:9

-- src/lib.rt:131:23

-- src/lib.rt:131:5

-- src/lib.rt:125:1

-- src/lib.rt:125:1

pub returns : goal.returns
returns c = step_law c.args.place c.args.count c.put_head-named.ensures c.put-behind.ensures c.put.ensures
