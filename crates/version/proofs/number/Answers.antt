-- `version::number` meets its contract: each turn keeps what is left to be read the same.
use mathlib.Core.Path.{sym, ◌∙◌}
use native.Mathlib.Omega.{arith}
use Rattle.version.specs.Part.{part_of}
use Rattle.version.proofs.Steps.{digit_range, no_byte, no_digit, begin, at_end, at_dot, no_number, over, more}
use Rattle.version.proofs.number.Goals as goal

pub returns-then-s-from : goal.returns-then-s-from
unfolding part_of
returns-then-s-from c = sym (no_byte c.args.s.now c.args.from c.if-s-from.true)

pub returns-then-not-is_digit : goal.returns-then-not-is_digit
unfolding part_of
returns-then-not-is_digit c =
    let a = c.args in
    sym (no_digit a.s.now a.from c.if-s-from.false (sym c.is_digit.ensures ∙ c.if-not-is_digit.true))

pub loop-i-init : goal.loop-i-init
loop-i-init c = begin _ _ c.if-s-from.false (sym c.is_digit.ensures ∙ c.if-not-is_digit.false)

pub returns-then-b-eq46 : goal.returns-then-b-eq46
unfolding part_of
returns-then-b-eq46 c = at_dot c.loop-i.invariant c.loop-i-test.true c.if-b-eq46.true

pub returns-then-not-is_digit-2 : goal.returns-then-not-is_digit-2
unfolding part_of
returns-then-not-is_digit-2 c =
    no_number c.loop-i.invariant c.loop-i-test.true c.if-b-eq46.false
    (sym c.is_digit-in-loop-i.ensures ∙ c.if-not-is_digit-2.true)

pub overflow_sub-n : goal.overflow_sub-n
overflow_sub-n c = omega (arith, digit_range _ ((sym c.is_digit-in-loop-i.ensures ∙ c.if-not-is_digit-2.false)))

pub overflow_cast-n : goal.overflow_cast-n
overflow_cast-n c = omega (arith, digit_range _ ((sym c.is_digit-in-loop-i.ensures ∙ c.if-not-is_digit-2.false)))

pub overflow_add-n : goal.overflow_add-n
overflow_add-n c = omega (arith, digit_range _ ((sym c.is_digit-in-loop-i.ensures ∙ c.if-not-is_digit-2.false)))

pub returns-then-n-gt65535 : goal.returns-then-n-gt65535
unfolding part_of
returns-then-n-gt65535 c =
    over c.loop-i.invariant c.loop-i-test.true c.if-b-eq46.false ((sym c.is_digit-in-loop-i.ensures ∙ c.if-not-is_digit-2.false)) (omega arith)

pub loop-i-preserved : goal.loop-i-preserved
loop-i-preserved c =
    more c.loop-i.invariant c.loop-i-test.true c.if-b-eq46.false ((sym c.is_digit-in-loop-i.ensures ∙ c.if-not-is_digit-2.false)) c.if-n-gt65535.false

pub returns : goal.returns
unfolding part_of
returns c = at_end c.loop-i.invariant c.loop-i-test.false
