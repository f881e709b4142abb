-- `ask_depfile_bound::depfile_bound` meets its contract.
use Rattle.spec.specs.Text.{key_name}
use Rattle.ask_depfile_bound.proofs.Bound.{begun, one_found, one_more, none_found}
use Rattle.ask_depfile_bound.proofs.depfile_bound.Goals as goal

pub loop-k-init : goal.loop-k-init
loop-k-init c = begun

pub returns-then-equal : goal.returns-then-equal
unfolding key_name
returns-then-equal c = one_found c.entry_name.ensures c.equal.ensures c.loop-k-test.true c.if-equal.true

pub loop-k-preserved : goal.loop-k-preserved
unfolding key_name
loop-k-preserved c = one_more c.entry_name.ensures c.equal.ensures c.loop-k-test.true c.if-equal.false c.loop-k.invariant

pub returns : goal.returns
returns c = none_found c.loop-k.invariant c.loop-k-test.false
