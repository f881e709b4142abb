-- `arena::insert` meets its contract.
use Prim.Native.Nat.{◌+◌, ◌-◌}
use mathlib.Core.Path.{◌≡◌}
use native.Mathlib.Omega.{arith}
use Rattle.arena.proofs.Shifting.{shift_begin, shift_on, shift_end}
use Rattle.arena.proofs.insert.Goals as goal

pub loop-i-init : goal.loop-i-init
loop-i-init c = shift_begin _ c.requires.0

pub loop-i-preserved : goal.loop-i-preserved
loop-i-preserved c =
    let z : c.loop-i.i - 1 + 1 ≡ c.loop-i.i = omega arith in
    rw z (shift_on c.loop-i.invariant c.requires.1 c.loop-i-test.true)

pub returns : goal.returns
returns c = rw c.put.ensures (shift_end c.loop-i.invariant c.requires.1 c.loop-i-test.false _)
