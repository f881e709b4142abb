-- `test_scan::name_tables::add_name` meets its contract.
use Rattle.test_scan.proofs.Adding.{adds_old, adds_new, adds_full}
use Rattle.hold_names.proofs.Laws.{after_old, after_new}
use native.Mathlib.Omega.{arith}
use borrow.Author.Rules.{rules}
use Rattle.test_scan.proofs.name_tables.add_name.Goals as goal

pub overflow_mul-result : goal.overflow_mul-result
overflow_mul-result c = omega (arith, (after_old c.add.ensures c.requires.holds c.in-Old.is).below, c.requires.holds.few)

pub overflow_add-result : goal.overflow_add-result
overflow_add-result c = omega (arith, (after_old c.add.ensures c.requires.holds c.in-Old.is).below, c.requires.holds.few)

pub overflow_mul-result-in-New : goal.overflow_mul-result-in-New
overflow_mul-result-in-New c = omega (arith, (after_new c.add.ensures c.requires.holds c.in-New.is).below, c.requires.holds.few)

pub overflow_add-result-in-New : goal.overflow_add-result-in-New
overflow_add-result-in-New c = omega (arith, (after_new c.add.ensures c.requires.holds c.in-New.is).below, c.requires.holds.few)

pub overflow_add-result-in-New-2 : goal.overflow_add-result-in-New-2
overflow_add-result-in-New-2 c = omega (arith, c.requires.holds.few)

pub returns-in-Old : goal.returns-in-Old
returns-in-Old c = adds_old (search rules) c.add.ensures (omega (arith, (after_old c.add.ensures c.requires.holds c.in-Old.is).below, c.requires.holds.few)) c.in-Old.is

pub returns-in-New : goal.returns-in-New
returns-in-New c = adds_new (search rules) c.add.ensures (omega (arith, (after_new c.add.ensures c.requires.holds c.in-New.is).below, c.requires.holds.few)) c.in-New.is

pub returns-in-Full : goal.returns-in-Full
returns-in-Full c = adds_full (search rules) c.add.ensures c.in-Full.is
