-- `scan_bundle::place_of` meets its contract: a compare with the name in the middle leaves one half of the sorted names.
use mathlib.Core.Path.{refl}
use native.Mathlib.Omega.{arith}
use Rattle.scan_bundle.proofs.Sorting.{half_begin, half_lower, half_higher, half_found, half_end, mid_below}
use Rattle.scan_bundle.proofs.place_of.Goals as goal

pub loop-low-init : goal.loop-low-init
loop-low-init c = half_begin _ _ c.requires.n_bound.1

pub at-k-requires : goal.at-k-requires
at-k-requires c = omega (arith, c.loop-low.invariant.within)

pub record_name-requires : goal.record_name-requires
record_name-requires c = record { laid_bundle = c.requires.laid_bundle; k_bound = omega (arith, mid_below _ c.loop-low.invariant c.loop-low-test.true refl c.at-k.ensures, c.requires.n_bound.0) }

pub loop-low-preserved-in-Less : goal.loop-low-preserved-in-Less
loop-low-preserved-in-Less c = half_lower _ c.loop-low.invariant c.loop-low-test.true refl c.at-k.ensures c.record_name.ensures c.compare.ensures c.in-Less.is

pub loop-low-preserved : goal.loop-low-preserved
loop-low-preserved c = half_higher _ c.loop-low.invariant c.loop-low-test.true refl c.at-k.ensures c.record_name.ensures c.compare.ensures c.in-Greater.is

pub returns-in-Equal : goal.returns-in-Equal
returns-in-Equal c = half_found _ c.loop-low.invariant c.loop-low-test.true refl c.at-k.ensures c.record_name.ensures c.compare.ensures c.in-Equal.is

pub returns : goal.returns
returns c = half_end _ c.loop-low.invariant c.loop-low-test.false
