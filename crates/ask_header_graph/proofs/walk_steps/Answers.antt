-- `ask_header_graph::walk_steps` meets its contract.
use Rattle.ask_header_graph.proofs.Walking.{walk_begin, turn_asked, walk_more, walk_refused, walk_end}
use mathlib.Core.Path.{◌∙◌}
use Rattle.ask_header_graph.proofs.walk_steps.Goals as goal

pub loop-s-init : goal.loop-s-init
loop-s-init c = walk_begin c.requires

pub head_step-requires : goal.head_step-requires
head_step-requires c = turn_asked c.loop-s.invariant c.loop-s-test.true

pub loop-s-preserved : goal.loop-s-preserved
loop-s-preserved c = walk_more c.loop-s.invariant c.loop-s-test.true c.head_step.ensures.promise c.in-Ok.is c.head_step.auto.names c.head_step.auto.index c.head_step.auto.second c.head_step.auto.name c.head_step.auto.word

pub shape_of-names-in-Err : goal.shape_of-names-in-Err
shape_of-names-in-Err c = c.head_step.auto.names ∙ c.loop-s.invariant.names_long

pub shape_of-index-in-Err : goal.shape_of-index-in-Err
shape_of-index-in-Err c = c.head_step.auto.index ∙ c.loop-s.invariant.index_long

pub shape_of-second-in-Err : goal.shape_of-second-in-Err
shape_of-second-in-Err c = c.head_step.auto.second ∙ c.loop-s.invariant.second_long

pub shape_of-name-in-Err : goal.shape_of-name-in-Err
shape_of-name-in-Err c = c.head_step.auto.name ∙ c.loop-s.invariant.name_long

pub shape_of-word-in-Err : goal.shape_of-word-in-Err
shape_of-word-in-Err c = c.head_step.auto.word ∙ c.loop-s.invariant.word_long

pub returns-in-Err : goal.returns-in-Err
returns-in-Err c = record { space = (record { long = (c.head_step.auto.names ∙ c.loop-s.invariant.names_long) }, record { long = (c.head_step.auto.index ∙ c.loop-s.invariant.index_long) }, record { long = (c.head_step.auto.second ∙ c.loop-s.invariant.second_long) }, record { long = (c.head_step.auto.name ∙ c.loop-s.invariant.name_long) }, record { long = (c.head_step.auto.word ∙ c.loop-s.invariant.word_long) }); promise = walk_refused c.loop-s.invariant c.loop-s-test.true c.head_step.ensures.promise c.in-Err.is }

pub shape_of-names : goal.shape_of-names
shape_of-names c = c.loop-s.invariant.names_long

pub shape_of-index : goal.shape_of-index
shape_of-index c = c.loop-s.invariant.index_long

pub shape_of-second : goal.shape_of-second
shape_of-second c = c.loop-s.invariant.second_long

pub shape_of-name : goal.shape_of-name
shape_of-name c = c.loop-s.invariant.name_long

pub shape_of-word : goal.shape_of-word
shape_of-word c = c.loop-s.invariant.word_long

pub returns : goal.returns
returns c = record { space = (record { long = (c.loop-s.invariant.names_long) }, record { long = (c.loop-s.invariant.index_long) }, record { long = (c.loop-s.invariant.second_long) }, record { long = (c.loop-s.invariant.name_long) }, record { long = (c.loop-s.invariant.word_long) }); promise = walk_end c.loop-s.invariant c.loop-s-test.false }
