-- `graph_roots::mark_inputs` meets its contract.
use mathlib.Core.Path.{◌∙◌, sym}
use Rattle.hold_columns.proofs.Held.{inputs_low}
use Rattle.graph_roots.proofs.Marking.{inputs_begin, inputs_more, inputs_end}
use Rattle.graph_roots.proofs.mark_inputs.Goals as goal

pub loop-s-init : goal.loop-s-init
loop-s-init c = inputs_begin c.requires

pub inputs-requires : goal.inputs-requires
inputs-requires c = c.requires.sound.placed c.loop-s.s c.loop-s-test.true

pub mark-requires : goal.mark-requires
mark-requires c = rw c.loop-s.invariant.state.long (inputs_low c.requires.sound.low _ _ c.inputs.ensures)

pub loop-s-preserved : goal.loop-s-preserved
loop-s-preserved c = inputs_more c.loop-s.invariant c.loop-s-test.true c.inputs.ensures c.mark.ensures

pub shape_of-marks : goal.shape_of-marks
shape_of-marks c = c.loop-s.invariant.state.long ∙ sym (inputs_begin c.requires).state.long

pub returns : goal.returns
returns c = inputs_end c.loop-s.invariant c.loop-s-test.false
