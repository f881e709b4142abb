-- `report::check_texts` meets its contract.
use native.Mathlib.Omega.{arith}
use mathlib.Core.Path.{◌∙◌}
use Rattle.report.proofs.Rounds.{checking_start, checking_asks, checking_more, checking_on, checking_all, checking_stops, checking_end}
use Rattle.report.proofs.check_texts.Goals as goal

pub loop-i-init : goal.loop-i-init
loop-i-init c = checking_start _ _ _ _

pub ask_texts-requires : goal.ask_texts-requires
ask_texts-requires c = checking_asks c.loop-i-test.true c.loop-i.invariant c.requires

pub shape_of-bytes-then-n-steps : goal.shape_of-bytes-then-n-steps
shape_of-bytes-then-n-steps c = c.ask_texts.auto.bytes ∙ c.loop-i.invariant.bytes_kept

pub shape_of-ends-then-n-steps : goal.shape_of-ends-then-n-steps
shape_of-ends-then-n-steps c = c.ask_texts.auto.ends ∙ c.loop-i.invariant.ends_kept

pub returns-then-n-steps : goal.returns-then-n-steps
returns-then-n-steps c = checking_all c.loop-i-test.true c.loop-i.invariant _ _ _ c.if-n-steps.true (rw c.in-Ok.is at c.ask_texts.ensures)

pub overflow_add-i : goal.overflow_add-i
overflow_add-i c = omega (arith, checking_more c.loop-i-test.true c.loop-i.invariant _ _ _ (rw c.in-Ok.is at c.ask_texts.ensures))

pub loop-i-smaller : goal.loop-i-smaller
loop-i-smaller c = omega (arith, checking_more c.loop-i-test.true c.loop-i.invariant _ _ _ (rw c.in-Ok.is at c.ask_texts.ensures))

pub loop-i-preserved : goal.loop-i-preserved
loop-i-preserved c = checking_on c.loop-i-test.true c.loop-i.invariant _ _ _ c.ask_texts.auto.bytes c.ask_texts.auto.ends (rw c.in-Ok.is at c.ask_texts.ensures)

pub shape_of-bytes-in-Err : goal.shape_of-bytes-in-Err
shape_of-bytes-in-Err c = c.ask_texts.auto.bytes ∙ c.loop-i.invariant.bytes_kept

pub shape_of-ends-in-Err : goal.shape_of-ends-in-Err
shape_of-ends-in-Err c = c.ask_texts.auto.ends ∙ c.loop-i.invariant.ends_kept

pub returns-in-Err : goal.returns-in-Err
returns-in-Err c = checking_stops c.loop-i-test.true c.loop-i.invariant _ _ _ (rw c.in-Err.is at c.ask_texts.ensures)

pub shape_of-bytes : goal.shape_of-bytes
shape_of-bytes c = c.loop-i.invariant.bytes_kept

pub shape_of-ends : goal.shape_of-ends
shape_of-ends c = c.loop-i.invariant.ends_kept

pub returns : goal.returns
returns c = checking_end c.loop-i-test.false c.loop-i.invariant
