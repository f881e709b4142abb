-- `apply_equal_outputs::place_for` meets its contract: the entries before `low` are less than the path, those from `high` on are greater.
use native.Mathlib.Omega.{arith}
use Rattle.apply_equal_outputs.proofs.Sorting.{half_begin, half_lower, half_higher, half_found, half_end}
use Rattle.apply_equal_outputs.proofs.place_for.Goals as goal

pub loop-low-init : goal.loop-low-init
loop-low-init c = half_begin _ _ _ _ _ _ _

pub order_at-requires : goal.order_at-requires
order_at-requires c = let p = c.requires in record { path = p.path; within = omega (arith, c.loop-low.invariant.within); lies = p.sorted.lies _ (omega (arith, c.loop-low.invariant.within)) }

pub loop-low-preserved-in-Less : goal.loop-low-preserved-in-Less
loop-low-preserved-in-Less c = half_lower c.loop-low.invariant c.requires.sorted (omega arith) (omega arith) c.order_at.ensures c.in-Less.is

pub loop-low-preserved : goal.loop-low-preserved
loop-low-preserved c = half_higher c.loop-low.invariant c.requires.sorted (omega arith) (omega arith) c.order_at.ensures c.in-Greater.is

pub returns-in-Equal : goal.returns-in-Equal
returns-in-Equal c = half_found c.loop-low.invariant c.requires.sorted (omega arith) (omega arith) c.order_at.ensures c.in-Equal.is

pub returns : goal.returns
returns c = half_end c.loop-low.invariant c.loop-low-test.false
