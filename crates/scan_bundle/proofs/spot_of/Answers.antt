-- `scan_bundle::spot_of` meets its contract: what is left of the place lies as far in the texts that are left.
use native.Mathlib.Omega.{arith}
use Rattle.scan_bundle.proofs.Lying.{laid_room}
use Rattle.scan_bundle.proofs.Places.{spot_begin, spot_past, spot_here, spot_on}
use Rattle.scan_bundle.proofs.spot_of.Goals as goal

pub loop-k-init : goal.loop-k-init
loop-k-init c = spot_begin _ _

pub overflow_mul-k : goal.overflow_mul-k
overflow_mul-k c = let y = laid_room _ c.requires.laid_bundle in omega (arith, c.requires.n_value)

pub overflow_add-k : goal.overflow_add-k
overflow_add-k c = let y = laid_room _ c.requires.laid_bundle in omega (arith, c.requires.n_value)

pub overflow_add-k-in-loop-k : goal.overflow_add-k-in-loop-k
overflow_add-k-in-loop-k c = let y = laid_room _ c.requires.laid_bundle in omega (arith, c.requires.n_value)

pub word-size-requires : goal.word-size-requires
word-size-requires c = let y = laid_room _ c.requires.laid_bundle in omega (arith, c.requires.n_value)

pub returns-then-left-size : goal.returns-then-left-size
returns-then-left-size c = spot_here c.loop-k.invariant c.requires.laid_bundle (omega (arith, c.requires.n_value)) _ c.word-size.ensures.is c.if-left-size.true c.requires.n_value

pub loop-k-preserved : goal.loop-k-preserved
loop-k-preserved c = spot_on c.loop-k.invariant c.requires.laid_bundle (omega (arith, c.requires.n_value)) _ c.word-size.ensures.is c.if-left-size.false

pub returns : goal.returns
returns c = spot_past c.loop-k.invariant (omega (arith, c.requires.n_value)) c.requires.n_value
