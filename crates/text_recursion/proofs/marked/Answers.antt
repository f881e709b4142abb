-- `text_recursion::marked` meets its contract.
use native.Mathlib.Omega.{arith}
use Rattle.hold_keys.proofs.Numbers.{key_most}
use Rattle.text_recursion.specs.Depth.{marks}
use Rattle.text_recursion.proofs.marked.Goals as goal

pub bounds-d-k : goal.bounds-d-k
bounds-d-k c = omega (arith, c.key_number-k.ensures, key_most c.args.name.now)

pub returns : goal.returns
unfolding marks
returns c = rw c.key_number-k.ensures
