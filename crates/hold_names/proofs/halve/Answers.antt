-- `hold_names::halve` meets its contract: a compare with the name in the middle leaves one half of the sorted names.
use native.Mathlib.Omega.{arith}
use Rattle.hold_names.proofs.Halving.{half_begin, half_lower, half_higher, half_found, half_end, mid_inside, mid_below, made_few}
use borrow.Author.Rules.{rules}
use Rattle.hold_names.proofs.halve.Goals as goal

pub loop-low-init : goal.loop-low-init
loop-low-init c = half_begin c.requires.sound_names c.requires.picks_names

pub overflow_mul-mid : goal.overflow_mul-mid
overflow_mul-mid c = search (rules, mid_inside c.loop-low.invariant c.loop-low-test.true)

pub overflow_add-from : goal.overflow_add-from
overflow_add-from c = search (rules, mid_inside c.loop-low.invariant c.loop-low-test.true)

pub at-k-requires : goal.at-k-requires
at-k-requires c = mid_inside c.loop-low.invariant c.loop-low-test.true

pub step-requires : goal.step-requires
step-requires c = record { sound_names = c.requires.sound_names; k_lt_count = (mid_below c.loop-low.invariant c.loop-low-test.true c.at-k.ensures, omega (arith, made_few c.loop-low.invariant, c.requires.n_bound)) }

pub loop-low-preserved-in-Before : goal.loop-low-preserved-in-Before
loop-low-preserved-in-Before c = half_lower c.loop-low.invariant c.loop-low-test.true c.at-k.ensures c.step.ensures c.in-Before.is

pub loop-low-preserved : goal.loop-low-preserved
loop-low-preserved c = half_higher c.loop-low.invariant c.loop-low-test.true c.at-k.ensures c.step.ensures c.in-Behind.is

pub returns-in-Same : goal.returns-in-Same
returns-in-Same c = half_found c.loop-low.invariant c.loop-low-test.true c.at-k.ensures c.step.ensures c.in-Same.is

pub returns : goal.returns
returns c = half_end c.loop-low.invariant c.loop-low-test.false
