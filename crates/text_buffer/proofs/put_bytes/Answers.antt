-- `text_buffer::put_bytes` meets its contract.
use native.Mathlib.Omega.{arith}
use Rattle.text_buffer.proofs.Parts.{puts_long, puts_bytes}
use Rattle.text_buffer.proofs.put_bytes.Goals as goal

pub returns-then-place-s : goal.returns-then-place-s
returns-then-place-s c = puts_long c.args.buffer.now c.args.place c.args.s.now (omega (arith, c.if-place-s.true))

pub returns : goal.returns
returns c = puts_bytes c.args.buffer.now c.args.place c.requires c.args.s.now c.if-place-s.false c.copy_at.ensures
