-- `text_buffer::put_byte` meets its contract.
use mathlib.Core.List.{[], ◌∷◌}
use native.Mathlib.Omega.{arith}
use Rattle.text_buffer.proofs.Parts.{puts_long, puts_byte}
use Rattle.text_buffer.proofs.put_byte.Goals as goal

pub returns-then-place-ge-TEXT : goal.returns-then-place-ge-TEXT
returns-then-place-ge-TEXT c = puts_long c.args.buffer.now c.args.place (c.args.b ∷ []) (omega (arith, c.if-place-ge-TEXT.true))

pub returns : goal.returns
returns c = puts_byte c.args.buffer.now c.args.place c.requires c.args.b c.if-place-ge-TEXT.false
