-- `scan_depfile::skip_blank` meets its contract.
use mathlib.Core.Path.{refl}
use Rattle.depfile.specs.Depfile.{behind_blank}
use Rattle.scan_depfile.proofs.Told.{mark_byte, mark_gap, mark_line, mark_lone}
use Rattle.scan_depfile.proofs.Walking.{smaller, walk_begin, walk_on, walk_stop, walk_end}
use Rattle.std.proofs.Common.{inl, inr}
use Rattle.scan_depfile.proofs.skip_blank.Goals as goal

pub loop-i-init : goal.loop-i-init
loop-i-init c = walk_begin c.requires

pub returns : goal.returns
unfolding behind_blank
returns c = walk_end c.loop-i.invariant c.loop-i-test.false refl

pub loop-i-smaller : goal.loop-i-smaller
loop-i-smaller c = elim c.in-Gap.is [ inl e ↦ smaller (mark_gap _ c.mark_at.ensures e) | inr e ↦ smaller (mark_line _ c.mark_at.ensures e) ]

pub loop-i-preserved : goal.loop-i-preserved
unfolding behind_blank
loop-i-preserved c = elim c.in-Gap.is [ inl e ↦ walk_on c.loop-i.invariant (mark_gap _ c.mark_at.ensures e) (λ t. refl) | inr e ↦ walk_on c.loop-i.invariant (mark_line _ c.mark_at.ensures e) (λ t. refl) ]

pub returns-in-Byte : goal.returns-in-Byte
unfolding behind_blank
returns-in-Byte c = elim c.in-Byte.is [ inl p ↦ walk_stop c.loop-i.invariant (mark_byte _ c.mark_at.ensures p.2) (λ t. refl) | inr e ↦ walk_stop c.loop-i.invariant (mark_lone _ c.mark_at.ensures e) (λ t. refl) ]

pub loop-i-smaller-in-Gap : goal.loop-i-smaller-in-Gap
loop-i-smaller-in-Gap c = elim c.in-Gap.is [ inl e ↦ smaller (mark_gap _ c.mark_at.ensures e) | inr e ↦ smaller (mark_line _ c.mark_at.ensures e) ]

pub loop-i-preserved-in-Gap : goal.loop-i-preserved-in-Gap
unfolding behind_blank
loop-i-preserved-in-Gap c = elim c.in-Gap.is [ inl e ↦ walk_on c.loop-i.invariant (mark_gap _ c.mark_at.ensures e) (λ t. refl) | inr e ↦ walk_on c.loop-i.invariant (mark_line _ c.mark_at.ensures e) (λ t. refl) ]
