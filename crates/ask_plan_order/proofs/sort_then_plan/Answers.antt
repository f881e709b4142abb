-- `ask_plan_order::sort_then_plan` meets its contract.
-- the order that was found
use mathlib.Core.Path.{sym}
use native.Mathlib.Omega.{arith}
use lib.ListN.{length}
use lib.Seq.{length-take-le}
use Rattle.graph_order.specs.Sort.{InOrder}
use Rattle.ask_plan_order.proofs.Outcomes.{order_told, circle_told, circle, goes_on, ask_sort, ask_sources}
use borrow.Author.Rules.{rules}
use Rattle.ask_plan_order.proofs.sort_then_plan.Goals as goal

pub order_needed-requires : goal.order_needed-requires
order_needed-requires c = ask_sort c.requires

pub slice_bounds-plan_sources-end : goal.slice_bounds-plan_sources-end
slice_bounds-plan_sources-end c = let sorted : InOrder c.args.g.now.mentions.now c.args.g.now.ends.now c.args.g.now.made.now c.args.roots.now (length c.args.g.now.phony.now)
    c.order_needed.new.order c.in-Ok.k c.args.list.now c.order_needed.new.list = order_told _ _ _ _ _ _ _ c.order_needed.ensures c.requires.long c.in-Ok.is in
    omega (arith, (sorted).sorted.within, c.order_needed.auto, c.requires.long)

pub slice_bounds-plan_sources-end-in-Ok : goal.slice_bounds-plan_sources-end-in-Ok
slice_bounds-plan_sources-end-in-Ok c = let sorted : InOrder c.args.g.now.mentions.now c.args.g.now.ends.now c.args.g.now.made.now c.args.roots.now (length c.args.g.now.phony.now)
    c.order_needed.new.order c.in-Ok.k c.args.list.now c.order_needed.new.list = order_told _ _ _ _ _ _ _ c.order_needed.ensures c.requires.long c.in-Ok.is in
    sym (length-take-le _ _ (omega (arith, (sorted).sorted.within, c.order_needed.auto, c.requires.long)))

pub plan_sources-requires : goal.plan_sources-requires
plan_sources-requires c = let sorted : InOrder c.args.g.now.mentions.now c.args.g.now.ends.now c.args.g.now.made.now c.args.roots.now (length c.args.g.now.phony.now)
    c.order_needed.new.order c.in-Ok.k c.args.list.now c.order_needed.new.list = order_told _ _ _ _ _ _ _ c.order_needed.ensures c.requires.long c.in-Ok.is in
    ask_sources c.requires.asked (sorted)

pub returns-in-Ok : goal.returns-in-Ok
returns-in-Ok c = let sorted : InOrder c.args.g.now.mentions.now c.args.g.now.ends.now c.args.g.now.made.now c.args.roots.now (length c.args.g.now.phony.now)
    c.order_needed.new.order c.in-Ok.k c.args.list.now c.order_needed.new.list = order_told _ _ _ _ _ _ _ c.order_needed.ensures c.requires.long c.in-Ok.is in
    record { space = record { long = (search rules) }; promise = goes_on (sorted) c.plan_sources.ensures }

pub returns-in-Err : goal.returns-in-Err
returns-in-Err c = record { space = record { long = (search rules) }; promise = circle (circle_told _ _ _ _ _ _ _ c.order_needed.ensures c.requires.long c.in-Err.is) }
