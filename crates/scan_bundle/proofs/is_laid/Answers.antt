-- `scan_bundle::is_laid` meets its contract: each test is a rule of the header; the extents last.
use mathlib.Core.Path.{sym, ◌∙◌}
use native.Mathlib.Omega.{arith}
use Rattle.lists.specs.Tests.{differ}
use Rattle.scan_card.proofs.Rules.{refuted, layout}
use Rattle.scan_bundle.proofs.Lying.{laid_layout, laid_enough, laid_few}
use Rattle.scan_bundle.proofs.Checking.{run_asks, laid_is}
use Rattle.scan_bundle.proofs.is_laid.Goals as goal

pub returns-then-not-sound_layout : goal.returns-then-not-sound_layout
returns-then-not-sound_layout c = refuted _ (λ h. differ (laid_layout _ _ _ h) (sym c.sound_layout.ensures ∙ c.if-not-sound_layout.true))

pub word-n-requires : goal.word-n-requires
word-n-requires c = let l = layout (sym c.sound_layout.ensures ∙ c.if-not-sound_layout.false) in omega arith

pub returns-then-n-least : goal.returns-then-n-least
returns-then-n-least c = refuted _ (λ h. omega (arith, laid_enough _ _ _ h, c.word-n.ensures.is))

pub returns-then-most-n : goal.returns-then-most-n
returns-then-most-n c = refuted _ (λ h. omega (arith, laid_few _ _ _ h, c.word-n.ensures.is))

pub word-requires : goal.word-requires
word-requires c = let l = layout (sym c.sound_layout.ensures ∙ c.if-not-sound_layout.false) in omega arith

pub has_sound_extents-requires : goal.has_sound_extents-requires
has_sound_extents-requires c = run_asks (sym c.sound_layout.ensures ∙ c.if-not-sound_layout.false) c.word-n.ensures.is c.word.ensures.is c.word.ensures.small

pub returns : goal.returns
returns c = laid_is _ _ _ (sym c.sound_layout.ensures ∙ c.if-not-sound_layout.false) (omega (arith, c.word-n.ensures.is)) (omega (arith, c.word-n.ensures.is)) c.has_sound_extents.ensures
