-- `text_step::steps::asked` meets its contract.
use Rattle.text_step.proofs.Picking.{step_missing, rule_place, step_phony, pick_asked, step_picked}
use Rattle.text_step.proofs.steps.asked.Goals as goal

pub returns-then-c-step : goal.returns-then-c-step
returns-then-c-step c = let a = c.args in step_missing a.texts.now a.bind.now a.graph.now a.c a.step c.if-c-step.true

pub at-both-requires : goal.at-both-requires
at-both-requires c = rule_place c.requires c.if-c-step.false

pub returns-then-rule-eq0 : goal.returns-then-rule-eq0
returns-then-rule-eq0 c = step_phony c.requires c.if-c-step.false c.at-both.ensures c.if-rule-eq0.true

pub picked-requires : goal.picked-requires
picked-requires c = pick_asked c.requires c.if-c-step.false c.at-both.ensures c.if-rule-eq0.false

pub returns : goal.returns
returns c = let a = c.args in step_picked a.texts.now a.bind.now a.graph.now a.c a.step c.picked.ensures
