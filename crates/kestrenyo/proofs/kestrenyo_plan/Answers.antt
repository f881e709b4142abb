-- `kestrenyo_plan` meets its contract: what the ask ensures, with three numbers for the answer.
use Rattle.kestrenyo.proofs.Telling.{tells_plan}
use Rattle.kestrenyo.proofs.kestrenyo_plan.Goals as goal

pub returns : goal.returns
returns c = tells_plan _ c.of_reply.ensures.plan c.locate.ensures c.plan.ensures
