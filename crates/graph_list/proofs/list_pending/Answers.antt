-- `graph_list::list_pending` meets its contract.
use mathlib.Core.Path.{◌∙◌, sym}
use native.Mathlib.Omega.{arith}
use Rattle.graph_list.proofs.Listing.{list_ask, list_begin, list_room, list_again, list_more, list_end, next_low}
use Rattle.graph_list.proofs.list_pending.Goals as goal

pub loop-s-init : goal.loop-s-init
loop-s-init c = list_begin c.requires

pub next_ready-requires : goal.next_ready-requires
next_ready-requires c = list_again c.requires c.loop-s.invariant

pub overflow_cast-list : goal.overflow_cast-list
overflow_cast-list c = let low = next_low c.requires c.loop-s.invariant c.next_ready.ensures c.in-Some.is in
    omega (arith, low, c.requires.sound.few_steps)

pub offset_bounds-list-count : goal.offset_bounds-list-count
offset_bounds-list-count c = let room = list_room c.requires c.loop-s.invariant c.next_ready.ensures c.in-Some.is in
    omega (arith, room, c.loop-s.invariant.list_long, c.requires.room, c.requires.sound.few_steps)

pub bounds-list-count : goal.bounds-list-count
bounds-list-count c = let room = list_room c.requires c.loop-s.invariant c.next_ready.ensures c.in-Some.is in
    omega (arith, room, c.loop-s.invariant.list_long, c.requires.room)

pub overflow_add-count : goal.overflow_add-count
overflow_add-count c = let room = list_room c.requires c.loop-s.invariant c.next_ready.ensures c.in-Some.is in
    omega (arith, room, c.requires.sound.few_steps)

pub offset_bounds-pending-s : goal.offset_bounds-pending-s
offset_bounds-pending-s c = let low = next_low c.requires c.loop-s.invariant c.next_ready.ensures c.in-Some.is in
    omega (arith, low, c.requires.sound.few_steps)

pub bounds-pending-s : goal.bounds-pending-s
bounds-pending-s c = let low = next_low c.requires c.loop-s.invariant c.next_ready.ensures c.in-Some.is in
    omega (arith, low, c.loop-s.invariant.pending_long)

pub loop-s-smaller : goal.loop-s-smaller
loop-s-smaller c = let room = list_room c.requires c.loop-s.invariant c.next_ready.ensures c.in-Some.is in
    omega (arith, room)

pub loop-s-preserved : goal.loop-s-preserved
loop-s-preserved c = list_more c.requires c.loop-s.invariant c.next_ready.ensures c.in-Some.is

pub shape_of-pending : goal.shape_of-pending
shape_of-pending c = c.loop-s.invariant.pending_long

pub shape_of-clear : goal.shape_of-clear
shape_of-clear c = c.next_ready.auto.clear ∙ c.loop-s.invariant.clear_long ∙ sym (list_ask c.requires).long

pub shape_of-list : goal.shape_of-list
shape_of-list c = c.zero_words_from.auto.buf ∙ c.loop-s.invariant.list_long

pub returns : goal.returns
returns c = record { space = (record { long = (c.loop-s.invariant.pending_long) }, record { long = (c.next_ready.auto.clear ∙ c.loop-s.invariant.clear_long ∙ sym (list_ask c.requires).long) }); promise = rw c.zero_words_from.ensures (list_end c.requires c.loop-s.invariant c.next_ready.ensures c.in_default.is) }
