-- `test_scan::scanners::kestrenyo_bad_byte` meets its contract.
use native.Mathlib.Omega.{arith}
use Rattle.test_scan.proofs.Numbers.{no_bad_byte, bad_byte_law, bad_byte_within}
use Rattle.test_scan.proofs.scanners.kestrenyo_bad_byte.Goals as goal

pub overflow_add-result : goal.overflow_add-result
overflow_add-result c = omega (arith, bad_byte_within _ c.bad_byte.ensures c.in-Some.is)

pub returns-in-None : goal.returns-in-None
returns-in-None c = no_bad_byte _ c.bad_byte.ensures c.in-None.is

pub returns-in-Some : goal.returns-in-Some
returns-in-Some c = bad_byte_law _ c.bad_byte.ensures c.in-Some.is
