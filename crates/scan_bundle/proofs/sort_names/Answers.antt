-- `scan_bundle::sort_names` meets its contract: the records so far are sorted, and each next one is put in.
use mathlib.Core.Path.{sym}
use native.Mathlib.Omega.{arith}
use lib.Seq.{length-take-le}
use Rattle.scan_bundle.proofs.Sorting.{sort_begin, sort_end, sort_twice, free_within, sort_more}
use Rattle.scan_bundle.proofs.sort_names.Goals as goal

pub loop-k-init : goal.loop-k-init
loop-k-init c = sort_begin _ _ _

pub slice_bounds-place_of-end-in-loop-k : goal.slice_bounds-place_of-end-in-loop-k
slice_bounds-place_of-end-in-loop-k c = sym (length-take-le _ _ (omega (arith, c.loop-k.invariant.long, c.requires.n_value.1)))

pub record_name-requires : goal.record_name-requires
record_name-requires c = record { laid_bundle = c.requires.laid_bundle; k_bound = omega (arith, c.requires.n_value.0) }

pub place_of-requires : goal.place_of-requires
place_of-requires c = record { laid_bundle = c.requires.laid_bundle; n_bound = (omega (arith, c.requires.n_value.0), c.loop-k.invariant.sorted) }

pub shape_of-order-in_default : goal.shape_of-order-in_default
shape_of-order-in_default c = c.loop-k.invariant.long

pub returns-in_default : goal.returns-in_default
returns-in_default c = sort_twice c.loop-k.invariant c.requires.n_value.0 c.loop-k-test.true c.record_name.ensures c.place_of.ensures c.in_default.is

pub insert-requires : goal.insert-requires
insert-requires c = (free_within c.loop-k.invariant c.requires.n_value.0 c.loop-k-test.true c.record_name.ensures c.place_of.ensures c.requires.n_value.1 c.in-Err.is, omega (arith, c.loop-k.invariant.long, c.requires.n_value.1), omega (arith, c.requires.n_value.2))

pub loop-k-preserved : goal.loop-k-preserved
loop-k-preserved c = sort_more c.loop-k.invariant c.requires.n_value.0 c.loop-k-test.true c.record_name.ensures c.place_of.ensures c.in-Err.is c.insert.ensures

pub shape_of-order : goal.shape_of-order
shape_of-order c = c.loop-k.invariant.long

pub returns : goal.returns
returns c = sort_end c.loop-k.invariant c.requires.n_value.0 c.loop-k-test.false
