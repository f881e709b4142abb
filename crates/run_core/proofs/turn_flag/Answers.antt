-- `run_core::turn_flag` meets its contract.
use Rattle.run_core.proofs.Steps.{flag_end, flag_clear, flag_past, flag_set}
use Rattle.run_core.proofs.turn_flag.Goals as goal

pub returns-then-v-eq1 : goal.returns-then-v-eq1
returns-then-v-eq1 c = flag_end _ _ _ c.if-v-eq1.true

pub returns-then-marks-m : goal.returns-then-marks-m
returns-then-marks-m c = flag_past _ _ _ c.if-v-eq1.false c.if-marks-m.true

pub returns-then-marks-m-eq0 : goal.returns-then-marks-m-eq0
returns-then-marks-m-eq0 c = flag_clear _ _ _ c.if-v-eq1.false c.if-marks-m-eq0.true

pub returns : goal.returns
returns c = flag_set _ _ _ c.if-v-eq1.false c.if-marks-m-eq0.false
