-- `line` meets its contract: 1, 21, then the line or 17.
use mathlib.Core.Path.{sym, ◌∙◌}
use native.Mathlib.Omega.{arith}
use Rattle.status_line.proofs.Filling.{line_short, line_wrong, line_sound}
use Rattle.status_line.proofs.line.Goals as goal

pub returns-then-buffer-lt-TEXT : goal.returns-then-buffer-lt-TEXT
returns-then-buffer-lt-TEXT c = line_short c.args.s c.args.format.now c.args.buffer.now c.if-buffer-lt-TEXT.true

pub fill_line-requires : goal.fill_line-requires
fill_line-requires c = record { room = c.if-buffer-lt-TEXT.false; low = omega arith }

pub returns-in-Some : goal.returns-in-Some
returns-in-Some c = line_wrong c.args.s c.args.format.now c.args.buffer.now c.if-buffer-lt-TEXT.false (sym c.in-Some.is ∙ c.first_wrong.ensures) c.zero_bytes_from.ensures

pub returns : goal.returns
returns c = rw (line_sound c.args.s c.args.format.now c.args.buffer.now c.if-buffer-lt-TEXT.false (sym c.in_default.is ∙ c.first_wrong.ensures)) c.fill_line.ensures
