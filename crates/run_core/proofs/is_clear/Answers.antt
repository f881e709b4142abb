-- `run_core::is_clear` meets its contract.
use Rattle.run_core.proofs.Steps.{clear_past}
use Rattle.run_core.proofs.is_clear.Goals as goal

pub returns-then-marks-s : goal.returns-then-marks-s
returns-then-marks-s c = clear_past c.args.marks.now _ c.if-marks-s.true
