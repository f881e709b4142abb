-- `expand_dollars::expand` meets its contract.
use Rattle.expand_dollars.proofs.Expanding.{expand_begin, expand_on, expand_done}
use Rattle.expand_dollars.proofs.expand.Goals as goal

pub loop-i-init : goal.loop-i-init
loop-i-init c = expand_begin c.args.word.now c.requires

pub loop-i-preserved : goal.loop-i-preserved
loop-i-preserved c = expand_on c.loop-i.invariant c.run_at-r.ensures c.put_run.ensures

pub returns : goal.returns
returns c = expand_done c.loop-i.invariant c.loop-i-test.false
