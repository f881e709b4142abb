-- `test_scan::scanners::kestrenyo_dollar` meets its contract.
use native.Mathlib.Omega.{arith}
use Rattle.scan_dollars.proofs.Answers.{past_to, past_bad}
use Rattle.test_scan.proofs.Numbers.{dollar_past, dollar_bad}
use Rattle.test_scan.proofs.scanners.kestrenyo_dollar.Goals as goal

pub overflow_add-result : goal.overflow_add-result
overflow_add-result c = omega (arith, (past_to _ _ _ c.past.ensures c.in-Some.is).within)

pub returns-in-Some : goal.returns-in-Some
returns-in-Some c = dollar_past _ _ c.start_in-i.ensures (past_to _ _ _ c.past.ensures c.in-Some.is)

pub returns-in-None : goal.returns-in-None
returns-in-None c = dollar_bad _ _ c.start_in-i.ensures (past_bad _ _ _ c.past.ensures c.in-None.is)
