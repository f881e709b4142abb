-- `test_scan::name_tables::add_all` meets its contract.
use mathlib.Core.Path.{refl}
use Rattle.test_scan.proofs.Adding.{adding_begin, adding_sound, adding_full, adding_done, adding_turn, adding_more}
use native.Mathlib.Omega.{arith}
use borrow.Author.Rules.{rules}
use Rattle.test_scan.proofs.name_tables.add_all.Goals as goal

pub loop-n-init : goal.loop-n-init
loop-n-init c = (refl, adding_begin _ _ c.requires)

pub returns-in_default : goal.returns-in_default
returns-in_default c = adding_done c.loop-n.invariant.1 _ c.name_at.ensures c.in_default.not-Name

pub slice_bounds-add_name-count : goal.slice_bounds-add_name-count
slice_bounds-add_name-count c = let t = adding_turn c.loop-n.invariant.1 c.name_at.ensures c.in-Name.is in omega (arith, t.some, t.within)

pub slice_bounds-add_name-start : goal.slice_bounds-add_name-start
slice_bounds-add_name-start c = let t = adding_turn c.loop-n.invariant.1 c.name_at.ensures c.in-Name.is in omega (arith, t.some, t.within)

pub slice_bounds-add_name-end : goal.slice_bounds-add_name-end
slice_bounds-add_name-end c = let t = adding_turn c.loop-n.invariant.1 c.name_at.ensures c.in-Name.is in omega (arith, t.some, t.within)

pub add_name-a-requires : goal.add_name-a-requires
add_name-a-requires c = adding_sound c.loop-n.invariant.1

pub overflow_cast-numbers : goal.overflow_cast-numbers
overflow_cast-numbers c = let l = c.add_name-a.ensures.low in search rules

pub bounds-numbers-n : goal.bounds-numbers-n
bounds-numbers-n c = let l = c.loop-n-test.true in search rules

pub overflow_add-from : goal.overflow_add-from
overflow_add-from c = let t = adding_turn c.loop-n.invariant.1 c.name_at.ensures c.in-Name.is in search rules

pub loop-n-smaller : goal.loop-n-smaller
loop-n-smaller c = omega (arith, c.loop-n-test.true, c.loop-n.invariant.1.same)

pub loop-n-preserved : goal.loop-n-preserved
loop-n-preserved c = (search rules, adding_more c.loop-n.invariant.1 c.loop-n-test.true (adding_turn c.loop-n.invariant.1 c.name_at.ensures c.in-Name.is) c.add_name-a.ensures)

pub returns : goal.returns
returns c = adding_full c.loop-n.invariant.1 c.loop-n-test.false
