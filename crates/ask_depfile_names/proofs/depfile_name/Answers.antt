-- `ask_depfile_names::depfile_name` meets its contract.
use Rattle.text_step.proofs.Picking.{asked_none, asked_step}
use Rattle.ask_depfile_names.proofs.Laws.{reads, no_command, step_asked, step_named}
use Rattle.ask_depfile_names.proofs.depfile_name.Goals as goal

pub asked-requires : goal.asked-requires
asked-requires c = reads c.requires

pub text_at-answer-requires : goal.text_at-answer-requires
text_at-answer-requires c = let a = c.args in step_asked c.requires (asked_step a.texts.now a.bind.now a.graph.now a.c a.step c.asked.ensures c.in-Some.is)

pub returns-in_default : goal.returns-in_default
returns-in_default c = let a = c.args in no_command c.requires (asked_none a.texts.now a.bind.now a.graph.now a.c a.step c.asked.ensures c.in_default.is)

pub returns : goal.returns
returns c = let a = c.args in step_named c.requires (asked_step a.texts.now a.bind.now a.graph.now a.c a.step c.asked.ensures c.in-Some.is) c.text_at-answer.ensures c.named.ensures
