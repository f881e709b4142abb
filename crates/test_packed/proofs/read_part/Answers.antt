-- `cases::read_part` meets its contract.
use mathlib.Core.Path.{refl, sym}
use lib.Seq.{length-take-le}
use Rattle.lists.specs.Tests.{differ}
use Rattle.test_packed.proofs.read_part.Goals as goal

pub returns-then-buf-n : goal.returns-then-buf-n
returns-then-buf-n c = λ e. differ e refl

pub slice_bounds-read_full-end-2 : goal.slice_bounds-read_full-end-2
slice_bounds-read_full-end-2 c = sym (length-take-le c.args.n c.args.buf.now c.if-buf-n.false)
