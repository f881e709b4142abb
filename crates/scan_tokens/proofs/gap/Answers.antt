-- `scan_tokens::gap` meets its contract.
use Rattle.scan_tokens.proofs.Places.{going_begin}
use Rattle.scan_tokens.proofs.Gaps.{skip_end, skip_space, skip_other, skip_last, skip_dollar, skip_join}
use Rattle.scan_tokens.proofs.gap.Goals as goal
use Rattle.scan_tokens.proofs.gap.Goals.{then-b-ne36-via-then-b-ne36, then-b-ne36-via-else-b-ne36+then-s-next, then-b-ne36-via-else-b-ne36+else-s-next+then-s-next-ne10}

pub loop-i-init : goal.loop-i-init
loop-i-init c = going_begin c.requires

pub loop-i-preserved-then-b-eq32 : goal.loop-i-preserved-then-b-eq32
loop-i-preserved-then-b-eq32 c = skip_space c.loop-i.invariant c.loop-i-test.true c.if-b-eq32.true

pub returns-then-b-ne36 : goal.returns-then-b-ne36
returns-then-b-ne36 c = elim c.then-b-ne36.branch [
  | then-b-ne36-via-then-b-ne36 w ↦ skip_other c.loop-i.invariant c.loop-i-test.true c.if-b-eq32.false w.if-b-ne36.true
  | then-b-ne36-via-else-b-ne36+then-s-next w ↦ skip_last c.loop-i.invariant c.loop-i-test.true w.if-b-ne36.false w.if-s-next.true
  | then-b-ne36-via-else-b-ne36+else-s-next+then-s-next-ne10 w ↦
      skip_dollar c.loop-i.invariant c.loop-i-test.true w.if-b-ne36.false w.if-s-next.false w.if-s-next-ne10.true
]

pub loop-i-preserved : goal.loop-i-preserved
loop-i-preserved c = skip_join c.loop-i.invariant c.loop-i-test.true c.if-b-ne36.false c.if-s-next.false c.if-s-next-ne10.false

pub returns : goal.returns
returns c = skip_end c.loop-i.invariant c.loop-i-test.false
