-- `report::begin` meets its contract.
use Rattle.spec.specs.Bundle.{no_lists}
use Rattle.spec.specs.PlanAsk.{inputs_of}
use Rattle.report.proofs.Beginning.{planned, begins}
use Rattle.report.proofs.begin.Goals as goal

pub no_lists-lists-requires : goal.no_lists-lists-requires
no_lists-lists-requires c = tt

pub plan-requires : goal.plan-requires
plan-requires c = tt

pub begin_planned-requires : goal.begin_planned-requires
begin_planned-requires c = planned (inputs_of c.args.bundle.now c.args.card.now c.args.targets.now no_lists) _ c.args.list.now c.plan.new.list c.args.line.now c.args.bytes.now c.args.ends.now c.of_reply-n.result _ c.requires c.of_reply-n.ensures.plan c.plan.auto.list (rw c.no_lists-lists.ensures at c.plan.ensures.promise)

pub returns : goal.returns
returns c = begins (inputs_of c.args.bundle.now c.args.card.now c.args.targets.now no_lists) c.args.list.now c.args.line.now c.plan.new.list c.of_reply-n.result _ c.of_reply-n.ensures.plan c.plan.auto.list c.begin_planned.auto.line (rw c.no_lists-lists.ensures at c.plan.ensures.promise) c.begin_planned.ensures
