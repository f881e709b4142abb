-- `text_batch::put_text` meets its contract.
use Rattle.std.proofs.lemmas.Result.{err_from_is_err_and}
use mathlib.Core.Path.{sym}
use Rattle.text_batch.proofs.Putting.{text_part}
use native.Mathlib.Omega.{arith}
use Rattle.text_batch.proofs.Putting.{text_short, put_long, put_ends, put_refused}
use Rattle.text_batch.proofs.put_text.Goals as goal

pub shape_of-one-then-room-end : goal.shape_of-one-then-room-end
shape_of-one-then-room-end c = c.text_of.auto.buffer

pub returns-then-room-end : goal.returns-then-room-end
returns-then-room-end c = record { space = record { long = (c.text_of.auto.buffer) }; promise = put_long c.text_of.ensures c.in_ok-n.was c.if-room-end.true }

pub slice_bounds-copy_at-end : goal.slice_bounds-copy_at-end
slice_bounds-copy_at-end c = omega (arith, text_short c.text_of.ensures c.in_ok-n.was c.requires.asked, c.requires.asked.room, c.text_of.auto)

pub slice_bounds-copy_at-end-2 : goal.slice_bounds-copy_at-end-2
slice_bounds-copy_at-end-2 c = sym (text_part c.text_of.ensures c.in_ok-n.was c.requires.asked (omega (arith, c.requires.asked.room, c.text_of.auto)))

pub copy_at-requires : goal.copy_at-requires
copy_at-requires c = omega (arith, text_part c.text_of.ensures c.in_ok-n.was c.requires.asked (omega (arith, c.requires.asked.room, c.text_of.auto)), c.requires.before, c.requires.within, c.if-room-end.false)

pub overflow_add-result : goal.overflow_add-result
overflow_add-result c = omega (arith, c.if-room-end.false, c.requires.before, c.requires.within)

pub shape_of-one : goal.shape_of-one
shape_of-one c = c.text_of.auto.buffer

pub shape_of-bytes : goal.shape_of-bytes
shape_of-bytes c = c.copy_at.auto.dst

pub returns : goal.returns
returns c = record { space = record { long = (c.text_of.auto.buffer) }; promise = put_ends c.text_of.ensures c.in_ok-n.was c.requires.before c.requires.within c.if-room-end.false (text_part c.text_of.ensures c.in_ok-n.was c.requires.asked (omega (arith, c.requires.asked.room, c.text_of.auto))) c.copy_at.ensures }

pub shape_of-one-in_err-n : goal.shape_of-one-in_err-n
shape_of-one-in_err-n c = c.text_of.auto.buffer

pub returns-in_err-n : goal.returns-in_err-n
returns-in_err-n c =
    let p = err_from_is_err_and c.from_residual.result c.from_residual.ensures.1 in
    rw (p.1, p.2) (record { space = record { long = c.text_of.auto.buffer }; promise = put_refused c.text_of.ensures c.in_err-n.was })
