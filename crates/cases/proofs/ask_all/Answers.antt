-- `cases::ask_all` meets its contract.
use mathlib.Core.Path.{sym}
use native.Mathlib.Omega.{arith}
use lib.Seq.{length-take-le}
use Rattle.cases.proofs.ask_all.Goals as goal

pub slice_bounds-name-end : goal.slice_bounds-name-end
slice_bounds-name-end c = sym (length-take-le _ c.args.input.now (omega (arith, c.requires.bundle_behind, c.requires.headers_behind, c.requires.card_behind, c.requires.targets_behind, c.requires.within)))
