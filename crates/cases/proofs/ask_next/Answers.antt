-- `cases::ask_next` meets its contract.
use mathlib.Core.Path.{sym}
use lib.Seq.{length-take-le}
use Rattle.cases.proofs.ask_next.Goals as goal

pub slice_bounds-ask_plan-end-then-a-eq0 : goal.slice_bounds-ask_plan-end-then-a-eq0
slice_bounds-ask_plan-end-then-a-eq0 c = sym (length-take-le _ c.args.list.now c.if-list-room.false)

pub slice_bounds-ask_text-end-2 : goal.slice_bounds-ask_text-end-2
slice_bounds-ask_text-end-2 c = sym (length-take-le _ c.args.buf.now c.if-buf-room.false)
