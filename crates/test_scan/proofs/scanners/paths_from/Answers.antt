-- `test_scan::scanners::paths_from` meets its contract.
use mathlib.Core.Path.{sym, ◌∙◌}
use native.Mathlib.Omega.{arith}
use borrow.Author.Rules.{rules}
use Rattle.scan_tokens.proofs.Places.{going_begin, going_on}
use Rattle.scan_raw.proofs.Answers.{next_stop, next_path, next_bad}
use Rattle.test_scan.proofs.Numbers.{paths_next, paths_stop, paths_bad}
use Rattle.test_scan.proofs.scanners.paths_from.Goals as goal

pub loop-end-init : goal.loop-end-init
loop-end-init c = going_begin (search rules)

pub loop-end-smaller : goal.loop-end-smaller
loop-end-smaller c = let n = next_path _ _ _ c.next_path.ensures c.in-Path.is in omega (arith, n.forward, n.longer, n.within)

pub loop-end-preserved : goal.loop-end-preserved
loop-end-preserved c = let n = next_path _ _ _ c.next_path.ensures c.in-Path.is in going_on c.loop-end.invariant (omega (arith, n.forward, n.longer)) n.within (paths_next n)

pub overflow_mul-result : goal.overflow_mul-result
overflow_mul-result c = omega (arith, (next_stop _ _ _ c.next_path.ensures c.in-Stop.is).within)

pub returns-in-Stop : goal.returns-in-Stop
returns-in-Stop c = paths_stop (next_stop _ _ _ c.next_path.ensures c.in-Stop.is) ∙ sym c.loop-end.invariant.same

pub overflow_mul-result-in-BadDollar : goal.overflow_mul-result-in-BadDollar
overflow_mul-result-in-BadDollar c = omega (arith, (next_bad _ _ _ c.next_path.ensures c.in-BadDollar.is).within)

pub overflow_add-result : goal.overflow_add-result
overflow_add-result c = omega (arith, (next_bad _ _ _ c.next_path.ensures c.in-BadDollar.is).within)

pub returns-in-BadDollar : goal.returns-in-BadDollar
returns-in-BadDollar c = paths_bad (next_bad _ _ _ c.next_path.ensures c.in-BadDollar.is) ∙ sym c.loop-end.invariant.same
