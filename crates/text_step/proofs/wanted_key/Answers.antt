-- `text_step::wanted_key` meets its contract.
use Rattle.spec.specs.TextAsk.{wanted_key}
use Rattle.text_step.proofs.wanted_key.Goals as goal

pub returns-in-Command : goal.returns-in-Command
unfolding wanted_key
returns-in-Command c = rw c.in-Command.is

pub returns-in-Description : goal.returns-in-Description
unfolding wanted_key
returns-in-Description c = rw c.in-Description.is
