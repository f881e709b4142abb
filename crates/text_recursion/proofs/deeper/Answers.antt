-- `text_recursion::deeper` meets its contract.
use Rattle.text_recursion.proofs.Levels.{mark_begin, mark_on, mark_end}
use Rattle.text_recursion.proofs.deeper.Goals as goal

pub loop-k-init : goal.loop-k-init
loop-k-init c = let a = c.args in mark_begin a.texts.now a.bind.now a.a a.d

pub key_name-requires : goal.key_name-requires
key_name-requires c = (c.key_names-names.ensures, c.loop-k-test.true)

pub leads-requires : goal.leads-requires
leads-requires c = c.requires

pub loop-k-preserved : goal.loop-k-preserved
loop-k-preserved c = mark_on c.loop-k.invariant c.loop-k-test.true c.key_name.ensures c.leads.ensures

pub returns : goal.returns
returns c = mark_end c.loop-k.invariant c.loop-k-test.false
