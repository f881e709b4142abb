-- `apply_path_checks::is_made` meets its contract.
use mathlib.Core.Path.{sym}
use native.Mathlib.Omega.{arith}
use borrow.Author.Tests.{lt-leb}
use lib.Seq.{length-take-le}
use Rattle.apply_path_checks.proofs.Makers.{long_held, made_held}
use Rattle.apply_path_checks.proofs.is_made.Goals as goal

pub returns-else-n-le-PATH : goal.returns-else-n-le-PATH
returns-else-n-le-PATH c = rw (lt-leb c.args.n 255 c.if-n-le-PATH.false) (long_held c.if-n-le-PATH.false)

pub slice_bounds-is_output-end : goal.slice_bounds-is_output-end
slice_bounds-is_output-end c = sym (length-take-le _ c.args.word.now (omega (arith, c.if-n-le-PATH.true, c.requires.room)))

pub returns-then-n-le-PATH : goal.returns-then-n-le-PATH
returns-then-n-le-PATH c = made_held (omega (arith, c.if-n-le-PATH.true, c.requires.room)) c.is_output.ensures
