-- `wanted_of` meets its contract.
use mathlib.Core.Path.{refl}
use borrow.Author.Tests.{eq-eqb, ne_eqb}
use Rattle.kestrenyo.specs.Wants.{wanted_of}
use Rattle.kestrenyo.proofs.wanted_of.Goals as goal

pub returns-then-n-eq0 : goal.returns-then-n-eq0
unfolding wanted_of
returns-then-n-eq0 c = rw (eq-eqb c.args.n 0 c.if-n-eq0.true) refl

pub returns : goal.returns
unfolding wanted_of
returns c = rw (ne_eqb c.args.n 0 c.if-n-eq0.false) refl
