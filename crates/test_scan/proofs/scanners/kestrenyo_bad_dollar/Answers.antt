-- `test_scan::scanners::kestrenyo_bad_dollar` meets its contract.
use native.Mathlib.Omega.{arith}
use Rattle.scan_raw.proofs.Answers.{value_sound, value_bad}
use Rattle.test_scan.specs.Scanners.{or_none}
use Rattle.test_scan.proofs.scanners.kestrenyo_bad_dollar.Goals as goal

pub overflow_add-result : goal.overflow_add-result
overflow_add-result c = omega (arith, (value_bad _ _ c.bad_dollar.ensures c.in-Some.is).within)

pub returns-in-None : goal.returns-in-None
unfolding or_none
returns-in-None c = rw (value_sound _ _ c.bad_dollar.ensures c.in-None.is)

pub returns-in-Some : goal.returns-in-Some
unfolding or_none
returns-in-Some c = rw (value_bad _ _ c.bad_dollar.ensures c.in-Some.is).bad
