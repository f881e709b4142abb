-- `printing::put_number` meets its contract.
use Rattle.printing.proofs.Digits.{few_digits}
use native.Mathlib.Omega.{arith}
use Rattle.printing.proofs.Putting.{number_law}
use Rattle.printing.proofs.put_number.Goals as goal

pub put-requires : goal.put-requires
put-requires c = omega (arith, c.decimal-k.ensures.in_bounds.1, few_digits _ _ c.ranges.n.fits c.decimal-k.ensures.len)

pub returns : goal.returns
returns c = number_law c.args.n c.decimal-k.result _ c.decimal-k.ensures.len c.decimal-k.ensures.digits c.decimal-k.ensures.in_bounds.1 (few_digits _ _ c.ranges.n.fits c.decimal-k.ensures.len) c.put.ensures
