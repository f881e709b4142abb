-- `first_wrong` meets its contract.
use mathlib.Core.Path.{◌≡◌, sym, ◌∙◌}
use native.Mathlib.Omega.{arith}
use lib.ListN.{length}
use Rattle.status_line.proofs.Wrong.{look_begin, look_bad, look_on, look_open, look_end, bad_after}
use Rattle.status_line.proofs.first_wrong.Goals as goal

pub loop-i-init : goal.loop-i-init
loop-i-init c = look_begin _

pub overflow_sub-result : goal.overflow_sub-result
overflow_sub-result c = omega (arith, c.loop-i.invariant.begun (bad_after _ _ (sym c.wrong_key.ensures ∙ c.if-wrong_key.true)))

pub returns-then-wrong_key : goal.returns-then-wrong_key
returns-then-wrong_key c = look_bad c.loop-i.invariant c.loop-i-test.true (sym c.wrong_key.ensures ∙ c.if-wrong_key.true)

pub loop-i-preserved : goal.loop-i-preserved
loop-i-preserved c = look_on c.loop-i.invariant c.loop-i-test.true (sym c.wrong_key.ensures ∙ c.if-wrong_key.false) c.next_state-after.ensures

pub overflow_sub-result-then-after : goal.overflow_sub-result-then-after
overflow_sub-result-then-after c = omega (arith, c.loop-i.invariant.begun c.if-after.true)

pub returns-then-after : goal.returns-then-after
returns-then-after c =
    let z : c.loop-i.i ≡ length c.args.format.now = omega arith in
    rw z at (look_open c.loop-i.invariant c.loop-i-test.false c.if-after.true)

pub returns : goal.returns
returns c = look_end c.loop-i.invariant c.loop-i-test.false c.if-after.false
