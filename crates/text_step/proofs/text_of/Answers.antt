-- `text_step::text_of` meets its contract.
use Rattle.text_step.proofs.Picking.{asked_none, asked_step}
use Rattle.text_step.proofs.Answering.{reads, no_command, step_asked, step_text}
use Rattle.text_step.proofs.text_of.Goals as goal

pub asked-requires : goal.asked-requires
asked-requires c = reads c.requires

pub text_at-requires : goal.text_at-requires
text_at-requires c = let a = c.args in step_asked (asked_step a.read.now.texts.now a.read.now.bind.now a.read.now.graph.now a.c a.x.step c.asked.ensures c.in-Some.is) c.requires

pub returns-in_default : goal.returns-in_default
returns-in_default c = let a = c.args in no_command c.requires a.x.wanted (asked_none a.read.now.texts.now a.read.now.bind.now a.read.now.graph.now a.c a.x.step c.asked.ensures c.in_default.is) c.zero_bytes_from.ensures

pub returns : goal.returns
returns c = let a = c.args in step_text (asked_step a.read.now.texts.now a.read.now.bind.now a.read.now.graph.now a.c a.x.step c.asked.ensures c.in-Some.is) c.requires c.wanted_key-key.ensures c.text_at.ensures
