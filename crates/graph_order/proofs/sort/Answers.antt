-- `graph_order::sort` meets its contract.
use native.Mathlib.Omega.{arith}
use Rattle.std.proofs.lemmas.Result.{err_from_is_err_and}
use Rattle.graph_order.specs.Walk.{FindsOrder}
use Rattle.graph_order.proofs.Roots.{asked_lengths, roots_begin, roots_ask, roots_more, roots_circle, roots_end}
use Rattle.graph_order.proofs.sort.Goals as goal

pub loop-i-init : goal.loop-i-init
loop-i-init c = roots_begin c.requires

pub explore_root-requires : goal.explore_root-requires
explore_root-requires c = roots_ask c.requires.sound c.requires.files c.loop-i.invariant c.loop-i-test.true

pub loop-i-preserved : goal.loop-i-preserved
loop-i-preserved c = roots_more c.requires.sound c.requires.files c.loop-i.invariant _ _ _ _ c.loop-i-test.true c.explore_root.ensures c.in_ok-done.was c.explore_root.auto.path

pub shape_of-seen-in_err-done : goal.shape_of-seen-in_err-done
shape_of-seen-in_err-done c = omega (arith, c.explore_root.auto, c.loop-i.invariant.state.visited, asked_lengths c.requires)

pub shape_of-next-in_err-done : goal.shape_of-next-in_err-done
shape_of-next-in_err-done c = omega (arith, c.explore_root.auto, c.loop-i.invariant.state.visited, asked_lengths c.requires)

pub shape_of-path-in_err-done : goal.shape_of-path-in_err-done
shape_of-path-in_err-done c = omega (arith, c.explore_root.auto, c.loop-i.invariant.path_long, c.requires.path_long)

pub shape_of-order-in_err-done : goal.shape_of-order-in_err-done
shape_of-order-in_err-done c = omega (arith, c.explore_root.auto, c.loop-i.invariant.state.visited)

pub returns-in_err-done : goal.returns-in_err-done
unfolding FindsOrder
returns-in_err-done c = record { space = (record { long = (omega (arith, c.explore_root.auto, c.loop-i.invariant.state.visited, asked_lengths c.requires)) }, record { long = (omega (arith, c.explore_root.auto, c.loop-i.invariant.state.visited, asked_lengths c.requires)) }); promise = (let p = err_from_is_err_and c.from_residual.result c.from_residual.ensures.1 in rw (p.1, p.2) (roots_circle c.requires.sound c.requires.files c.loop-i.invariant _ _ _ _ {from = c.in_err-done.field-0.0.0} {to = c.in_err-done.field-0.0.1} c.explore_root.ensures c.in_err-done.was)) }

pub shape_of-seen : goal.shape_of-seen
shape_of-seen c = omega (arith, c.loop-i.invariant.state.visited, asked_lengths c.requires)

pub shape_of-next : goal.shape_of-next
shape_of-next c = omega (arith, c.loop-i.invariant.state.visited, asked_lengths c.requires)

pub shape_of-path : goal.shape_of-path
shape_of-path c = omega (arith, c.loop-i.invariant.path_long, c.requires.path_long)

pub returns : goal.returns
unfolding FindsOrder
returns c = record { space = (record { long = (omega (arith, c.loop-i.invariant.state.visited, asked_lengths c.requires)) }, record { long = (omega (arith, c.loop-i.invariant.state.visited, asked_lengths c.requires)) }); promise = roots_end c.requires.sound c.requires.files c.loop-i.invariant c.loop-i-test.false }
