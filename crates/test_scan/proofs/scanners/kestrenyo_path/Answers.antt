-- `test_scan::scanners::kestrenyo_path` meets its contract.
use native.Mathlib.Omega.{arith}
use Rattle.scan_raw.proofs.Answers.{path_to, path_wrong}
use Rattle.test_scan.proofs.Numbers.{path_ends, path_bad}
use Rattle.test_scan.proofs.scanners.kestrenyo_path.Goals as goal

pub overflow_mul-result : goal.overflow_mul-result
overflow_mul-result c = omega (arith, (path_to _ _ _ c.path.ensures c.in-Ok.is).reads.within)

pub overflow_mul-result-in-Err : goal.overflow_mul-result-in-Err
overflow_mul-result-in-Err c = omega (arith, (path_wrong _ _ _ c.path.ensures c.in-Err.is).within)

pub overflow_add-result : goal.overflow_add-result
overflow_add-result c = omega (arith, (path_wrong _ _ _ c.path.ensures c.in-Err.is).within)

pub returns-in-Ok : goal.returns-in-Ok
returns-in-Ok c = path_ends _ _ c.start_in-i.ensures (path_to _ _ _ c.path.ensures c.in-Ok.is)

pub returns-in-Err : goal.returns-in-Err
returns-in-Err c = path_bad _ _ c.start_in-i.ensures (path_wrong _ _ _ c.path.ensures c.in-Err.is)
