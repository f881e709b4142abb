-- `apply_path_checks::has_wrong` meets its contract.
use mathlib.Core.Path.{refl}
use native.Mathlib.Omega.{arith}
use borrow.Author.Rules.{rules}
use Rattle.scan_raw.specs.Texts.{PathNext}
use Rattle.cut_forms.proofs.Walks.{goes_on, stops}
use Rattle.apply_path_checks.proofs.Walking.{ready_path, table_held, look_begin, look_more, look_found, look_end}
use Rattle.apply_path_checks.proofs.has_wrong.Goals as goal

-- the path of this turn

pub loop-from-init : goal.loop-from-init
loop-from-init c = (refl, look_begin c.requires.within)

pub slice_bounds-is_wrong-count : goal.slice_bounds-is_wrong-count
slice_bounds-is_wrong-count c = let next : PathNext c.args.l.now c.loop-from.i c.in-Some.from c.in-Some.to = goes_on _ _ _ c.next_listed.ensures c.in-Some.is in
    omega (arith, (next).longer)

pub slice_bounds-is_wrong-start : goal.slice_bounds-is_wrong-start
slice_bounds-is_wrong-start c = let next : PathNext c.args.l.now c.loop-from.i c.in-Some.from c.in-Some.to = goes_on _ _ _ c.next_listed.ensures c.in-Some.is in
    omega (arith, (next).longer, (next).within)

pub slice_bounds-is_wrong-end : goal.slice_bounds-is_wrong-end
slice_bounds-is_wrong-end c = let next : PathNext c.args.l.now c.loop-from.i c.in-Some.from c.in-Some.to = goes_on _ _ _ c.next_listed.ensures c.in-Some.is in
    omega (arith, (next).within)

pub is_wrong-requires : goal.is_wrong-requires
is_wrong-requires c =
    let next : PathNext c.args.l.now c.loop-from.i c.in-Some.from c.in-Some.to = goes_on _ _ _ c.next_listed.ensures c.in-Some.is in
    let p = c.requires in
    record { ready = ready_path p.table p.short (table_held p.whole) (next); room = omega (arith, p.room, c.loop-from.invariant.0); whole = p.whole }

pub returns-then-is_wrong : goal.returns-then-is_wrong
returns-then-is_wrong c = let next : PathNext c.args.l.now c.loop-from.i c.in-Some.from c.in-Some.to = goes_on _ _ _ c.next_listed.ensures c.in-Some.is in
    record { space = search rules; promise = look_found c.loop-from.invariant.1 (next) c.is_wrong.ensures.promise c.if-is_wrong.true }

pub loop-from-smaller : goal.loop-from-smaller
loop-from-smaller c = let next : PathNext c.args.l.now c.loop-from.i c.in-Some.from c.in-Some.to = goes_on _ _ _ c.next_listed.ensures c.in-Some.is in
    omega (arith, (next).longer, (next).within, (next).forward)

pub loop-from-preserved : goal.loop-from-preserved
loop-from-preserved c = let next : PathNext c.args.l.now c.loop-from.i c.in-Some.from c.in-Some.to = goes_on _ _ _ c.next_listed.ensures c.in-Some.is in
    (search rules, look_more c.loop-from.invariant.1 (next) c.is_wrong.ensures.promise c.if-is_wrong.false)

pub returns : goal.returns
returns c = record { space = search rules; promise = look_end c.loop-from.invariant.1 (stops _ _ _ c.next_listed.ensures c.in_default.is) }
