-- `test_scan::cards::count_listed` meets its contract.
use Rattle.test_scan.proofs.Listing.{counting_begin, counting_done, counting_turn, counting_more}
use native.Mathlib.Omega.{arith}
use borrow.Author.Rules.{rules}
use Rattle.test_scan.proofs.cards.count_listed.Goals as goal

pub loop-end-init : goal.loop-end-init
loop-end-init c = counting_begin

pub returns : goal.returns
returns c = counting_done c.loop-end.invariant _ c.name_at.ensures c.in_default.not-Name

pub slice_bounds-is_listed-count : goal.slice_bounds-is_listed-count
slice_bounds-is_listed-count c = let t = counting_turn c.loop-end.invariant c.name_at.ensures c.in-Name.is in omega (arith, t.some, t.within)

pub slice_bounds-is_listed-start : goal.slice_bounds-is_listed-start
slice_bounds-is_listed-start c = let t = counting_turn c.loop-end.invariant c.name_at.ensures c.in-Name.is in omega (arith, t.some, t.within)

pub slice_bounds-is_listed-end : goal.slice_bounds-is_listed-end
slice_bounds-is_listed-end c = let t = counting_turn c.loop-end.invariant c.name_at.ensures c.in-Name.is in omega (arith, t.some, t.within)

pub overflow_add-n : goal.overflow_add-n
overflow_add-n c =
    let t = counting_turn c.loop-end.invariant c.name_at.ensures c.in-Name.is in
    let w = counting_more c.loop-end.invariant t c.is_listed-n.ensures in
    search (rules, w.few, w.within)

pub overflow_add-from : goal.overflow_add-from
overflow_add-from c = let t = counting_turn c.loop-end.invariant c.name_at.ensures c.in-Name.is in search rules

pub loop-end-smaller : goal.loop-end-smaller
loop-end-smaller c = let t = counting_turn c.loop-end.invariant c.name_at.ensures c.in-Name.is in omega (arith, t.some, t.within)

pub loop-end-preserved : goal.loop-end-preserved
loop-end-preserved c = counting_more c.loop-end.invariant (counting_turn c.loop-end.invariant c.name_at.ensures c.in-Name.is) c.is_listed-n.ensures
