-- `text_batch::walk` meets its contract.
use Rattle.std.proofs.lemmas.Result.{err_from_is_err_and}
use Prim.Native.Nat.{◌≤◌}
use native.Mathlib.Omega.{arith}
use mathlib.Core.Path.{refl}
use Rattle.text_batch.proofs.Walking.{walk_begin, walk_end, walk_on, walk_full, walk_long, walk_refused, walk_asks, end_within}
use borrow.Author.Rules.{rules}
use Rattle.text_batch.proofs.walk.Goals as goal

pub loop-i-init : goal.loop-i-init
loop-i-init c = (refl, refl, walk_begin)

pub put_text-requires : goal.put_text-requires
put_text-requires c = walk_asks c.requires c.loop-i.invariant.2 c.loop-i.invariant.0 c.loop-i.invariant.1

pub returns-then-ends-i : goal.returns-then-ends-i
returns-then-ends-i c = record { space = record { long = (search rules) }; promise = walk_full c.loop-i.invariant.2 c.loop-i-test.true c.at-step.ensures (rw c.in-Some.is at (rw c.in_ok-e.was at c.put_text.ensures.promise)) c.if-ends-i.true }

pub overflow_cast-ends : goal.overflow_cast-ends
overflow_cast-ends c = let low : c.in-Some.e ≤ c.args.b.room = end_within c.requires (rw c.in-Some.is at (rw c.in_ok-e.was at c.put_text.ensures.promise)) in
    omega (arith, low, c.requires.low)

pub offset_bounds-ends-i : goal.offset_bounds-ends-i
offset_bounds-ends-i c = omega (arith, c.if-ends-i.false, c.loop-i.invariant.2.long)

pub loop-i-preserved : goal.loop-i-preserved
loop-i-preserved c = let low : c.in-Some.e ≤ c.args.b.room = end_within c.requires (rw c.in-Some.is at (rw c.in_ok-e.was at c.put_text.ensures.promise)) in
    (omega (arith, c.loop-i.invariant.0, c.put_text.auto), omega (arith, c.loop-i.invariant.1, c.put_text.auto), walk_on c.loop-i.invariant.2 c.loop-i-test.true c.at-step.ensures (rw c.in-Some.is at (rw c.in_ok-e.was at c.put_text.ensures.promise)) (low) c.if-ends-i.false)

pub returns-in_default : goal.returns-in_default
returns-in_default c = record { space = record { long = (search rules) }; promise = walk_long c.loop-i.invariant.2 c.loop-i-test.true c.at-step.ensures (rw c.in_default.is at (rw c.in_ok-e.was at c.put_text.ensures.promise)) }

pub returns-in_err-e : goal.returns-in_err-e
returns-in_err-e c =
    let p = err_from_is_err_and c.from_residual.result c.from_residual.ensures.1 in
    rw (p.1, p.2) (record { space = record { long = (search rules) }; promise = walk_refused c.loop-i.invariant.2 c.loop-i-test.true c.at-step.ensures (rw c.in_err-e.was at c.put_text.ensures.promise) })

pub returns : goal.returns
returns c = record { space = record { long = (search rules) }; promise = walk_end c.loop-i.invariant.2 c.loop-i-test.false c.loop-i.auto.i-end }
