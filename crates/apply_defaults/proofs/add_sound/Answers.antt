-- `apply_defaults::add_sound` meets its contract.
use mathlib.Core.Path.{refl}
use native.Mathlib.Omega.{arith}
use borrow.Author.Rules.{rules}
use Rattle.cut_forms.proofs.Walks.{goes_on, stops}
use Rattle.apply_path_checks.proofs.Walking.{ready_path, table_held}
use Rattle.scan_raw.specs.Texts.{PathNext}
use Rattle.apply_defaults.proofs.Adding.{add_begin, add_whole, add_on, add_over, add_end}
use Rattle.apply_defaults.proofs.add_sound.Goals as goal

-- the path of this turn

pub loop-from-init : goal.loop-from-init
loop-from-init c = (refl, refl, add_begin c.args.s.start c.requires.right c.requires.asks.stands.within)

pub slice_bounds-add_default-count : goal.slice_bounds-add_default-count
slice_bounds-add_default-count c = let next : PathNext c.args.l.now c.loop-from.i c.in-Some.from c.in-Some.to = goes_on _ _ _ c.next_listed.ensures c.in-Some.is in
    omega (arith, (next).longer)

pub slice_bounds-add_default-start : goal.slice_bounds-add_default-start
slice_bounds-add_default-start c = let next : PathNext c.args.l.now c.loop-from.i c.in-Some.from c.in-Some.to = goes_on _ _ _ c.next_listed.ensures c.in-Some.is in
    omega (arith, (next).longer, (next).within)

pub slice_bounds-add_default-end : goal.slice_bounds-add_default-end
slice_bounds-add_default-end c = let next : PathNext c.args.l.now c.loop-from.i c.in-Some.from c.in-Some.to = goes_on _ _ _ c.next_listed.ensures c.in-Some.is in
    omega (arith, (next).within)

pub add_default-requires : goal.add_default-requires
add_default-requires c =
    let next : PathNext c.args.l.now c.loop-from.i c.in-Some.from c.in-Some.to = goes_on _ _ _ c.next_listed.ensures c.in-Some.is in
    let p = c.requires.asks in
    let w = add_whole c.loop-from.invariant.2 p.stands p.whole in
    record { ready = ready_path p.table p.short (table_held w) (next); room = omega (arith, p.room, c.loop-from.invariant.1); whole = w }

pub loop-from-smaller : goal.loop-from-smaller
loop-from-smaller c = let next : PathNext c.args.l.now c.loop-from.i c.in-Some.from c.in-Some.to = goes_on _ _ _ c.next_listed.ensures c.in-Some.is in
    omega (arith, (next).longer, (next).within, (next).forward)

pub loop-from-preserved : goal.loop-from-preserved
loop-from-preserved c = let next : PathNext c.args.l.now c.loop-from.i c.in-Some.from c.in-Some.to = goes_on _ _ _ c.next_listed.ensures c.in-Some.is in
    (search rules, search rules, add_on c.loop-from.invariant.2 (next) c.add_default.ensures.promise c.in-Some-add_default.is)

pub returns-in_default-add_default : goal.returns-in_default-add_default
returns-in_default-add_default c = let next : PathNext c.args.l.now c.loop-from.i c.in-Some.from c.in-Some.to = goes_on _ _ _ c.next_listed.ensures c.in-Some.is in
    record { space = search rules; promise = λ ps w. add_over c.loop-from.invariant.2 (next) c.add_default.ensures.promise c.in_default-add_default.is w }

pub returns : goal.returns
returns c = record { space = search rules; promise = λ ps w. add_end c.loop-from.invariant.2 (stops _ _ _ c.next_listed.ensures c.in_default.is) w }
