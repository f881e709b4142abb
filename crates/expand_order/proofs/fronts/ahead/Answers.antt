-- `expand_order::fronts::ahead` meets its contract.
use mathlib.Core.Path.{sym}
use native.Mathlib.Omega.{arith}
use lib.Seq.{length-take-le}
use Rattle.expand_order.proofs.Agreeing.{fronts_less, fronts_same, fronts_greater}
use Rattle.expand_order.proofs.fronts.ahead.Goals as goal

pub slice_bounds-compare-end : goal.slice_bounds-compare-end
slice_bounds-compare-end c = sym (length-take-le _ c.args.p.now (omega (arith, c.min-n.ensures)))

pub slice_bounds-compare-end-2 : goal.slice_bounds-compare-end-2
slice_bounds-compare-end-2 c = sym (length-take-le _ c.args.q.now (omega (arith, c.min-n.ensures)))

pub returns-in-Less : goal.returns-in-Less
returns-in-Less c =
    fronts_less c.args.p.now c.args.q.now c.min-n.ensures c.compare.ensures c.in-Less.is

pub returns-in-Equal : goal.returns-in-Equal
returns-in-Equal c =
    fronts_same c.args.p.now c.args.q.now c.min-n.ensures c.compare.ensures c.in-Equal.is

pub returns-in-Greater : goal.returns-in-Greater
returns-in-Greater c =
    fronts_greater c.args.p.now c.args.q.now c.min-n.ensures c.compare.ensures c.in-Greater.is
