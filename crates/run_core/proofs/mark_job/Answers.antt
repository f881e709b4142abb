-- `run_core::mark_job` meets its contract.
use Rattle.run_core.proofs.Steps.{mark_done, mark_one, mark_past}
use Rattle.run_core.proofs.mark_job.Goals as goal

pub returns-then-j-eq2 : goal.returns-then-j-eq2
returns-then-j-eq2 c = mark_done _ _ c.if-j-eq2.true

pub returns-then-s-marks : goal.returns-then-s-marks
returns-then-s-marks c = mark_one _ _ c.if-j-eq2.false

pub returns-else-s-marks : goal.returns-else-s-marks
returns-else-s-marks c = mark_past _ _ c.if-j-eq2.false c.if-s-marks.false
