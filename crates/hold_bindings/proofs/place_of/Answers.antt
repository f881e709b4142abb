-- `hold_bindings::place_of` meets its contract.
-- `hold_bindings::place_of` meets its contract.
use native.Mathlib.Omega.{arith}
use Rattle.hold_bindings.proofs.Seeking.{index_below, half_begin, half_lower, half_higher, half_end}
use Rattle.hold_bindings.proofs.place_of.Goals as goal

pub loop-low-init : goal.loop-low-init
loop-low-init c = half_begin

pub is_before-requires : goal.is_before-requires
is_before-requires c = let a = c.requires in record { log = a.log; count = c.args.count; held = a.held; below = index_below a.held (omega (arith, c.loop-low.invariant.within)) c.at.ensures }

pub loop-low-preserved-then-is_before : goal.loop-low-preserved-then-is_before
loop-low-preserved-then-is_before c = half_lower c.loop-low.invariant (omega arith) (omega arith) c.at.ensures c.is_before.ensures c.if-is_before.true

pub loop-low-preserved : goal.loop-low-preserved
loop-low-preserved c = half_higher c.loop-low.invariant (omega arith) (omega arith) c.at.ensures c.is_before.ensures c.if-is_before.false

pub returns : goal.returns
returns c = half_end c.loop-low.invariant c.loop-low-test.false
