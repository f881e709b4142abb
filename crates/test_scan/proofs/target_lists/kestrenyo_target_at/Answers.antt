-- `test_scan::target_lists::kestrenyo_target_at` meets its contract.
use mathlib.Core.Path.{sym, ◌∙◌}
use native.Mathlib.Omega.{arith}
use Rattle.scan_targets.proofs.Walk.{turn}
use Rattle.test_scan.proofs.Numbers.{number_of_next, target}
use Rattle.test_scan.proofs.target_lists.kestrenyo_target_at.Goals as goal

pub overflow_add-result : goal.overflow_add-result
overflow_add-result c = omega (arith, (turn _ _ _ (sym c.in-Name.is ∙ c.name_at.ensures)).within)

pub returns-in-End : goal.returns-in-End
unfolding number_of_next
returns-in-End c = target _ c.name_at.ensures c.in-End.is

pub returns-in-Bad : goal.returns-in-Bad
unfolding number_of_next
returns-in-Bad c = target _ c.name_at.ensures c.in-Bad.is

pub returns-in-Name : goal.returns-in-Name
unfolding number_of_next
returns-in-Name c = target _ c.name_at.ensures c.in-Name.is
