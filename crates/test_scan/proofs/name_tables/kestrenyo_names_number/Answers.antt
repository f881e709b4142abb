-- `test_scan::name_tables::kestrenyo_names_number` meets its contract.
use Rattle.test_scan.proofs.Adding.{refused, numbers_all, empty_table}
use native.Mathlib.Omega.{arith}
use borrow.Author.Rules.{rules}
use Rattle.test_scan.proofs.name_tables.kestrenyo_names_number.Goals as goal
use Rattle.test_scan.proofs.name_tables.kestrenyo_names_number.Goals.{then-names-gt4294967295-via-then-names-gt4294967295, then-names-gt4294967295-via-else-names-gt4294967295+then-index-lt-NUMBERS}

pub returns-then-names-gt4294967295 : goal.returns-then-names-gt4294967295
returns-then-names-gt4294967295 c = elim c.then-names-gt4294967295.branch [
  | then-names-gt4294967295-via-then-names-gt4294967295 w ↦ refused (λ r. omega (arith, w.if-names-gt4294967295.true, r.small))
  | then-names-gt4294967295-via-else-names-gt4294967295+then-index-lt-NUMBERS w ↦ refused (λ r. omega (arith, w.if-index-lt-NUMBERS.true, r.room))
]

pub add_all-requires : goal.add_all-requires
add_all-requires c = empty_table _ _ (omega (arith, c.if-names-gt4294967295.false)) c.if-index-lt-NUMBERS.false c.clear.ensures

pub overflow_add-result : goal.overflow_add-result
overflow_add-result c = let w = c.add_all.ensures.within in search rules

pub returns : goal.returns
returns c = numbers_all (omega (arith, c.if-names-gt4294967295.false)) c.if-index-lt-NUMBERS.false c.add_all.ensures
