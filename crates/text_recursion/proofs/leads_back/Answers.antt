-- `text_recursion::leads_back` meets its contract.
use native.Mathlib.Omega.{arith}
use Rattle.spec.specs.Text.{key_name}
use Rattle.hold_keys.proofs.Numbers.{key_low}
use Rattle.text_recursion.specs.Depth.{marks}
use Rattle.text_recursion.proofs.Levels.{level_begin, level_on, level_end, level_out}
use Rattle.text_recursion.proofs.leads_back.Goals as goal

pub loop-k-init : goal.loop-k-init
loop-k-init c = let a = c.args in level_begin a.texts.now a.bind.now a.a

pub bounds-d-n : goal.bounds-d-n
bounds-d-n c = omega (arith, c.number_of-n.ensures, key_low c.args.key)

pub returns-then-not-d-n : goal.returns-then-not-d-n
unfolding marks
returns-then-not-d-n c = λ log rd s h.
    level_out (level_on c.loop-k.invariant c.loop-k-test.true c.deeper-d.ensures) h (key_name c.args.key)
    (rw (← c.number_of-n.ensures) c.if-not-d-n.true)

pub loop-k-preserved : goal.loop-k-preserved
loop-k-preserved c = level_on c.loop-k.invariant c.loop-k-test.true c.deeper-d.ensures

pub bounds-d-n-2 : goal.bounds-d-n-2
bounds-d-n-2 c = omega (arith, c.number_of-n.ensures, key_low c.args.key)

pub returns : goal.returns
unfolding marks
returns c = λ log rd s h. rw c.number_of-n.ensures (level_end c.loop-k.invariant c.loop-k-test.false h (key_name c.args.key))
