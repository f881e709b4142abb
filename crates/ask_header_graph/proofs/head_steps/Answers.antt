-- `ask_header_graph::head_steps` meets its contract.
use Rattle.ask_header_graph.proofs.Starting.{begin_asked, walk_asked, all_heads}
use mathlib.Core.Path.{◌∙◌}
use Rattle.ask_header_graph.proofs.head_steps.Goals as goal

pub begin_columns-requires : goal.begin_columns-requires
begin_columns-requires c = begin_asked c.requires.holds c.requires.second_long

pub walk_steps-requires : goal.walk_steps-requires
walk_steps-requires c = walk_asked c.requires c.begin_columns.ensures

pub shape_of-names : goal.shape_of-names
shape_of-names c = c.walk_steps.auto.names

pub shape_of-index : goal.shape_of-index
shape_of-index c = c.walk_steps.auto.index

pub shape_of-second : goal.shape_of-second
shape_of-second c = c.walk_steps.auto.second ∙ c.begin_columns.auto.second

pub shape_of-name : goal.shape_of-name
shape_of-name c = c.walk_steps.auto.name

pub shape_of-word : goal.shape_of-word
shape_of-word c = c.walk_steps.auto.word

pub returns : goal.returns
returns c = record { space = (record { long = (c.walk_steps.auto.names) }, record { long = (c.walk_steps.auto.index) }, record { long = (c.walk_steps.auto.second ∙ c.begin_columns.auto.second) }, record { long = (c.walk_steps.auto.name) }, record { long = (c.walk_steps.auto.word) }); promise = all_heads c.begin_columns.ensures c.walk_steps.ensures.promise }
