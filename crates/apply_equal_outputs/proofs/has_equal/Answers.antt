-- `apply_equal_outputs::has_equal` meets its contract.
use native.Mathlib.Omega.{arith}
use Rattle.scan_raw.specs.Texts.{PathNext}
use Rattle.apply_equal_outputs.proofs.Sorting.{path_asks, scan_begin, scan_room, scan_found, scan_on, scan_end}
use Rattle.cut_forms.proofs.Walks.{goes_on, stops}
use borrow.Author.Rules.{rules}
use Rattle.apply_equal_outputs.proofs.has_equal.Goals as goal

-- the first path of this turn

-- and the second

pub loop-from-init : goal.loop-from-init
loop-from-init c = scan_begin c.requires.list.stands.within

pub is_taken-requires : goal.is_taken-requires
is_taken-requires c =
    let next : PathNext c.args.l.now c.loop-from.i c.in-Some.from c.in-Some.to = goes_on _ _ _ c.next_listed.ensures c.in-Some.is in
    let a = c.requires in
    let p = next in
    record { path = path_asks a.list p; room = scan_room c.loop-from.invariant p a.list.short a.room; sorted = c.loop-from.invariant.sorted }

pub returns-then-is_taken : goal.returns-then-is_taken
returns-then-is_taken c = let next : PathNext c.args.l.now c.loop-from.i c.in-Some.from c.in-Some.to = goes_on _ _ _ c.next_listed.ensures c.in-Some.is in
    scan_found c.loop-from.invariant (next) c.is_taken.ensures c.if-is_taken.true

pub overflow_add-n : goal.overflow_add-n
overflow_add-n c = let next : PathNext c.args.l.now c.loop-from.i c.in-Some.from c.in-Some.to = goes_on _ _ _ c.next_listed.ensures c.in-Some.is in
    let r = scan_room c.loop-from.invariant (next) c.requires.list.short c.requires.room in search rules

pub next_listed-requires-in-Some : goal.next_listed-requires-in-Some
next_listed-requires-in-Some c = let next : PathNext c.args.l.now c.loop-from.i c.in-Some.from c.in-Some.to = goes_on _ _ _ c.next_listed.ensures c.in-Some.is in
    let p = next in search rules

pub is_taken-requires-in-Some : goal.is_taken-requires-in-Some
is_taken-requires-in-Some c =
    let second : PathNext c.args.l.now c.in-Some.to c.in-Some-next_listed.after c.in-Some-next_listed.end = goes_on _ _ _ c.next_listed-in-Some.ensures c.in-Some-next_listed.is in
    let next : PathNext c.args.l.now c.loop-from.i c.in-Some.from c.in-Some.to = goes_on _ _ _ c.next_listed.ensures c.in-Some.is in
    let a = c.requires in
    let p = second in
    let x = scan_on c.loop-from.invariant (next) c.is_taken.ensures c.if-is_taken.false in
    record { path = path_asks a.list p; room = scan_room x p a.list.short a.room; sorted = x.sorted }

pub returns-then-is_taken-2 : goal.returns-then-is_taken-2
returns-then-is_taken-2 c = let second : PathNext c.args.l.now c.in-Some.to c.in-Some-next_listed.after c.in-Some-next_listed.end = goes_on _ _ _ c.next_listed-in-Some.ensures c.in-Some-next_listed.is in
    let next : PathNext c.args.l.now c.loop-from.i c.in-Some.from c.in-Some.to = goes_on _ _ _ c.next_listed.ensures c.in-Some.is in
    scan_found (scan_on c.loop-from.invariant (next) c.is_taken.ensures c.if-is_taken.false) (second) c.is_taken-in-Some.ensures c.if-is_taken-2.true

pub overflow_add-n-in-Some : goal.overflow_add-n-in-Some
overflow_add-n-in-Some c =
    let next : PathNext c.args.l.now c.loop-from.i c.in-Some.from c.in-Some.to = goes_on _ _ _ c.next_listed.ensures c.in-Some.is in
    let x = scan_on c.loop-from.invariant (next) c.is_taken.ensures c.if-is_taken.false in
    let ahead = x.ahead in
    let within = x.within in
    let short = c.requires.list.short in
    search rules

pub loop-from-smaller : goal.loop-from-smaller
loop-from-smaller c = let second : PathNext c.args.l.now c.in-Some.to c.in-Some-next_listed.after c.in-Some-next_listed.end = goes_on _ _ _ c.next_listed-in-Some.ensures c.in-Some-next_listed.is in
    let next : PathNext c.args.l.now c.loop-from.i c.in-Some.from c.in-Some.to = goes_on _ _ _ c.next_listed.ensures c.in-Some.is in
    let p = next in let q = second in omega (arith, p.longer, p.within, p.forward, q.longer, q.within, q.forward)

pub loop-from-preserved : goal.loop-from-preserved
loop-from-preserved c = let second : PathNext c.args.l.now c.in-Some.to c.in-Some-next_listed.after c.in-Some-next_listed.end = goes_on _ _ _ c.next_listed-in-Some.ensures c.in-Some-next_listed.is in
    let next : PathNext c.args.l.now c.loop-from.i c.in-Some.from c.in-Some.to = goes_on _ _ _ c.next_listed.ensures c.in-Some.is in
    scan_on (scan_on c.loop-from.invariant (next) c.is_taken.ensures c.if-is_taken.false) (second) c.is_taken-in-Some.ensures c.if-is_taken-2.false

pub returns-in_default-next_listed : goal.returns-in_default-next_listed
returns-in_default-next_listed c =
    let next : PathNext c.args.l.now c.loop-from.i c.in-Some.from c.in-Some.to = goes_on _ _ _ c.next_listed.ensures c.in-Some.is in
    scan_end (scan_on c.loop-from.invariant (next) c.is_taken.ensures c.if-is_taken.false) (stops _ _ _ c.next_listed-in-Some.ensures c.in_default-next_listed.is)

pub returns : goal.returns
returns c = scan_end c.loop-from.invariant (stops _ _ _ c.next_listed.ensures c.in_default.is)
