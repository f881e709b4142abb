-- `text_step::is_plain` meets its contract.
use Rattle.lists.specs.Bytes.{eq_bytes}
use Rattle.spec.specs.Text.{key_name, spelling_for}
use Rattle.text_step.proofs.is_plain.Goals as goal

pub returns-in-Command : goal.returns-in-Command
unfolding spelling_for key_name eq_bytes
returns-in-Command c = rw c.in-Command.is

pub returns-in-Description : goal.returns-in-Description
unfolding spelling_for key_name eq_bytes
returns-in-Description c = rw c.in-Description.is

pub returns-in-Generator : goal.returns-in-Generator
unfolding spelling_for key_name eq_bytes
returns-in-Generator c = rw c.in-Generator.is

pub returns-in-Depfile : goal.returns-in-Depfile
unfolding spelling_for key_name eq_bytes
returns-in-Depfile c = rw c.in-Depfile.is

pub returns-in-Pool : goal.returns-in-Pool
unfolding spelling_for key_name eq_bytes
returns-in-Pool c = rw c.in-Pool.is
