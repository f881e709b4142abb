-- `run_core::turn_marks` meets its contract.
use Rattle.run_core.proofs.Steps.{turn_row, turn_end, turn_past}
use Rattle.run_core.proofs.turn_marks.Goals as goal

pub returns-then-v-eq0 : goal.returns-then-v-eq0
returns-then-v-eq0 c = turn_row _ _ _ c.if-v-eq0.true

pub returns-then-s-marks : goal.returns-then-s-marks
returns-then-s-marks c = turn_end _ _ _ c.if-v-eq0.false

pub returns-else-s-marks : goal.returns-else-s-marks
returns-else-s-marks c = turn_past _ _ _ c.if-v-eq0.false c.if-s-marks.false
