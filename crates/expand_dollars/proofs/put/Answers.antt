-- `expand_dollars::put` meets its contract.
use mathlib.Core.Path.{sym, ◌∙◌}
use native.Mathlib.Omega.{arith}
use lib.ListN.{length-take}
use lib.Seq.{length-take-le}
use Rattle.expand_dollars.proofs.Laid.{laid_past, laid_least}
use Rattle.expand_dollars.proofs.put.Goals as goal

pub returns-then-word-at : goal.returns-then-word-at
returns-then-word-at c = laid_past c.args.word.now c.args.at c.args.s.now c.if-word-at.true

pub slice_bounds-copy_at-end : goal.slice_bounds-copy_at-end
slice_bounds-copy_at-end c = sym (length-take-le _ c.args.s.now (omega (arith, c.min-n.ensures)))

pub copy_at-requires : goal.copy_at-requires
copy_at-requires c = simp length-take (omega (arith, c.min-n.ensures))

pub returns : goal.returns
returns c = c.copy_at.ensures ∙ laid_least c.args.word.now c.args.at c.args.s.now c.if-word-at.false c.min-n.ensures
