-- `percent` meets its contract.
use borrow.Author.Tests.{eq-eqb, ne_eqb}
use native.Mathlib.Omega.{arith}
use Rattle.status_line.specs.Pieces.{percent_of}
use Rattle.status_line.proofs.percent.Goals as goal

pub returns-then-total-eq0 : goal.returns-then-total-eq0
unfolding percent_of
returns-then-total-eq0 c = rw (eq-eqb c.args.total 0 c.if-total-eq0.true)

pub overflow_mul-result : goal.overflow_mul-result
overflow_mul-result c = omega (arith, c.from.ensures, c.ranges.started)

pub nonzero_div-result : goal.nonzero_div-result
nonzero_div-result c = omega (arith, c.from-2.ensures, c.if-total-eq0.false)

pub returns : goal.returns
unfolding percent_of
returns c = rw (ne_eqb c.args.total 0 c.if-total-eq0.false) (rw (c.from.ensures, c.from-2.ensures))
