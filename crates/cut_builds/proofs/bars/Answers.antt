-- `cut_builds::bars` meets its contract.
use Rattle.cut_forms.specs.Statements.{BarsAt}
use Rattle.cut_builds.proofs.Builds.{bars_end, bars_other, bars_last, bars_two, bars_one}
use Rattle.cut_builds.proofs.bars.Goals as goal
use Rattle.cut_builds.proofs.bars.Goals.{else-next-l-via-then-next-l+else-l-next-eq124, else-next-l-via-else-next-l}

pub returns-then-l-at : goal.returns-then-l-at
unfolding BarsAt
returns-then-l-at c = bars_end _ _ c.if-l-at.true

pub returns-then-l-at-ne124 : goal.returns-then-l-at-ne124
unfolding BarsAt
returns-then-l-at-ne124 c = bars_other _ _ c.if-l-at.false c.if-l-at-ne124.true

pub returns-then-l-next-eq124 : goal.returns-then-l-next-eq124
unfolding BarsAt
returns-then-l-next-eq124 c = bars_two _ _ c.if-l-at.false c.if-l-at-ne124.false c.if-next-l.true c.if-l-next-eq124.true

pub returns : goal.returns
unfolding BarsAt
returns c = elim c.else-next-l.branch [
  | else-next-l-via-then-next-l+else-l-next-eq124 w ↦ bars_one _ _ c.if-l-at.false c.if-l-at-ne124.false w.if-next-l.true w.if-l-next-eq124.false
  | else-next-l-via-else-next-l w ↦ bars_last _ _ c.if-l-at.false c.if-l-at-ne124.false w.if-next-l.false
]
