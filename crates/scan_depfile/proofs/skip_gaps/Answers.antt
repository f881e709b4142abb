-- `scan_depfile::skip_gaps` meets its contract.
use mathlib.Core.Path.{◌≡◌, refl}
use native.Mathlib.Omega.{arith}
use Rattle.scan_depfile.specs.Walk.{behind_gaps}
use Rattle.scan_depfile.specs.Answers.{MarkAt, NextMark, ReadsMarks}
use Rattle.scan_depfile.proofs.Told.{mark_byte, mark_gap, mark_line, mark_lone}
use Rattle.scan_depfile.proofs.Walking.{Walking, walk_begin, walk_on, walk_stop, walk_end}
use Prim.Native.Nat.{ℕ}
use mathlib.Core.List.{List}
use Rattle.scan_depfile.specs.declared.FoundMark.{FoundMark}
use Rattle.scan_depfile.specs.declared.FoundMark.TheVariants.{Byte, Gap, Line, Lone}
use Rattle.scan_depfile.proofs.skip_gaps.Goals as goal

stops : {s : List ℕ} {i k : ℕ} → Walking behind_gaps s i k → (r : FoundMark) → MarkAt s k r → ((n : ℕ) → r ≡ Gap n → ⊥) → ReadsMarks behind_gaps s i k
unfolding behind_gaps
stops a (Byte b n) m h = walk_stop a (mark_byte _ m refl) (λ t. refl)
stops a (Gap n) m h = absurd (h n refl)
stops a (Line n) m h = walk_stop a (mark_line _ m refl) (λ t. refl)
stops a Lone m h = walk_stop a (mark_lone _ m refl) (λ t. refl)

pub loop-i-init : goal.loop-i-init
loop-i-init c = walk_begin c.requires

pub loop-i-smaller : goal.loop-i-smaller
loop-i-smaller c =
    let m : NextMark _ _ _ _ = mark_gap _ c.mark_at.ensures c.in-Gap.is in
    omega (arith, m.forward, m.within)

pub loop-i-preserved : goal.loop-i-preserved
unfolding behind_gaps
loop-i-preserved c = walk_on c.loop-i.invariant (mark_gap _ c.mark_at.ensures c.in-Gap.is) (λ t. refl)

pub returns : goal.returns
unfolding behind_gaps
returns c = walk_end c.loop-i.invariant c.loop-i-test.false refl

pub returns-in_default : goal.returns-in_default
returns-in_default c = stops c.loop-i.invariant _ c.mark_at.ensures c.in_default.not-Gap
