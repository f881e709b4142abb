-- `text_step::steps::picked` meets its contract.
use native.Mathlib.Omega.{arith}
use Rattle.text_step.proofs.Picking.{pick_rule, pick_graph, picks}
use Rattle.text_step.proofs.steps.picked.Goals as goal

pub declaration-rule-requires : goal.declaration-rule-requires
declaration-rule-requires c = pick_rule c.requires

pub outputs_from-outs-requires : goal.outputs_from-outs-requires
outputs_from-outs-requires c = pick_graph c.requires

pub step_end-ins-requires : goal.step_end-ins-requires
step_end-ins-requires c = let g = pick_graph c.requires in omega (arith, g.low, g.long)

pub step_end-rest-requires : goal.step_end-rest-requires
step_end-rest-requires c = let g = pick_graph c.requires in omega (arith, g.low, g.long)

pub returns : goal.returns
returns c = picks c.requires c.declaration-rule.ensures c.outputs_from-outs.ensures c.step_end-ins.ensures c.step_end-rest.ensures
