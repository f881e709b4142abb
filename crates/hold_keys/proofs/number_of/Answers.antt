-- `hold_keys::number_of` meets its contract.
use Rattle.lists.specs.Bytes.{eq_bytes}
use Rattle.spec.specs.Reading.{number_of}
use Rattle.spec.specs.Text.{key_name, key_names, key_number}
use Rattle.hold_keys.proofs.number_of.Goals as goal

pub returns-in-Command : goal.returns-in-Command
unfolding key_number key_names key_name number_of eq_bytes
returns-in-Command c = rw c.in-Command.is

pub returns-in-Description : goal.returns-in-Description
unfolding key_number key_names key_name number_of eq_bytes
returns-in-Description c = rw c.in-Description.is

pub returns-in-Generator : goal.returns-in-Generator
unfolding key_number key_names key_name number_of eq_bytes
returns-in-Generator c = rw c.in-Generator.is

pub returns-in-Depfile : goal.returns-in-Depfile
unfolding key_number key_names key_name number_of eq_bytes
returns-in-Depfile c = rw c.in-Depfile.is

pub returns-in-Pool : goal.returns-in-Pool
unfolding key_number key_names key_name number_of eq_bytes
returns-in-Pool c = rw c.in-Pool.is
