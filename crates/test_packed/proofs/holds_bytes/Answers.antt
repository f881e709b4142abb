-- `cases::holds_bytes` meets its contract.
use mathlib.Core.Path.{sym}
use lib.Seq.{length-take-le}
use Rattle.test_packed.proofs.holds_bytes.Goals as goal

pub slice_bounds-equal-end : goal.slice_bounds-equal-end
slice_bounds-equal-end c = sym (length-take-le _ c.args.buf.now c.if-buf-n.false)
