-- `scan_depfile::behind_colon` meets its contract.
use mathlib.Core.Path.{refl}
use Rattle.scan_depfile.specs.Walk.{behind_colon}
use Rattle.scan_depfile.specs.Answers.{ColonAt}
use Rattle.scan_depfile.proofs.Told.{mark_byte, mark_gap, mark_line, mark_lone}
use Rattle.scan_depfile.proofs.Walking.{smaller, walk_begin, walk_on, colon_found, colon_on, colon_none, colon_end}
use Rattle.std.proofs.Common.{inl, inr}
use Rattle.scan_depfile.proofs.behind_colon.Goals as goal

pub loop-i-init : goal.loop-i-init
loop-i-init c = walk_begin c.requires

pub returns : goal.returns
unfolding ColonAt
returns c = colon_end c.loop-i.invariant c.loop-i-test.false

pub returns-then-b-eq58 : goal.returns-then-b-eq58
unfolding ColonAt
returns-then-b-eq58 c = colon_found c.loop-i.invariant (mark_byte _ c.mark_at.ensures c.in-Byte.is) c.if-b-eq58.true

pub loop-i-smaller-in-Byte : goal.loop-i-smaller-in-Byte
loop-i-smaller-in-Byte c = smaller (mark_byte _ c.mark_at.ensures c.in-Byte.is)

pub loop-i-preserved-in-Byte : goal.loop-i-preserved-in-Byte
loop-i-preserved-in-Byte c = colon_on c.loop-i.invariant (mark_byte _ c.mark_at.ensures c.in-Byte.is) c.if-b-eq58.false

pub loop-i-smaller : goal.loop-i-smaller
loop-i-smaller c = smaller (mark_gap _ c.mark_at.ensures c.in-Gap.is)

pub loop-i-preserved : goal.loop-i-preserved
unfolding behind_colon
loop-i-preserved c = walk_on c.loop-i.invariant (mark_gap _ c.mark_at.ensures c.in-Gap.is) (λ t. refl)

pub returns-in-Line : goal.returns-in-Line
unfolding ColonAt behind_colon
returns-in-Line c =
    elim c.in-Line.is [
      | inl p ↦ colon_none c.loop-i.invariant (mark_line _ c.mark_at.ensures p.1) (λ t. refl)
      | inr e ↦ colon_none c.loop-i.invariant (mark_lone _ c.mark_at.ensures e) (λ t. refl)
    ]
