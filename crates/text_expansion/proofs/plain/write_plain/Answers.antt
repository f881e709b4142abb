-- `text_expansion::plain::write_plain` meets its contract.
use Rattle.text_expansion.proofs.Plainly.{plain_inputs, plain_lines, plain_outputs, plain_value, plain_text, plain_unset}
use Rattle.text_expansion.proofs.plain.write_plain.Goals as goal

pub value-requires : goal.value-requires
value-requires c = (c.requires.value _ c.in-Value.is).entry

pub returns-in-Inputs : goal.returns-in-Inputs
returns-in-Inputs c = plain_inputs c.in-Inputs.is c.write_files.ensures

pub returns-in-InputLines : goal.returns-in-InputLines
returns-in-InputLines c = plain_lines c.in-InputLines.is c.write_files-in-InputLines.ensures

pub returns-in-Outputs : goal.returns-in-Outputs
returns-in-Outputs c = plain_outputs c.in-Outputs.is c.write_files-in-Outputs.ensures

pub returns-in-Value : goal.returns-in-Value
returns-in-Value c = plain_value c.requires c.in-Value.is c.value.ensures c.write.ensures

pub returns-in-Text : goal.returns-in-Text
returns-in-Text c = plain_text c.in-Text.is

pub returns-in-Unset : goal.returns-in-Unset
returns-in-Unset c = plain_unset c.in-Unset.is
