-- `ask_header_list::close_step` meets its contract.
use mathlib.Core.Path.{◌∙◌}
use Rattle.ask_header_list.proofs.Ending.{close_copies, close_ends_by, close_step_by}
use Rattle.ask_header_list.proofs.close_step.Goals as goal

pub copy_mentions-d-requires : goal.copy_mentions-d-requires
copy_mentions-d-requires c = close_copies c.requires

pub end_step-requires : goal.end_step-requires
end_step-requires c = close_ends_by c.requires c.copy_mentions-d.auto.second c.copy_mentions-d.ensures.counted

pub shape_of-second : goal.shape_of-second
shape_of-second c = c.end_step.auto.second ∙ c.copy_mentions-d.auto.second

pub returns : goal.returns
returns c = close_step_by c.requires c.copy_mentions-d.auto.second c.copy_mentions-d.ensures c.end_step.ensures
