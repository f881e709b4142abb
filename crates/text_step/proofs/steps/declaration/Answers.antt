-- `text_step::steps::declaration` meets its contract.
use Rattle.text_step.proofs.Picking.{rule_entry, rule_table, declares_or}
use Rattle.text_step.proofs.steps.declaration.Goals as goal

pub entry_name-requires : goal.entry_name-requires
entry_name-requires c = rule_entry c.requires

pub newest-requires : goal.newest-requires
newest-requires c = rule_table c.requires

pub returns : goal.returns
returns c = rw c.unwrap_or.ensures (declares_or c.requires c.entry_name.ensures _ c.newest.ensures)
