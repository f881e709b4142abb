-- `scan_card::sound_layout` meets its contract: each test is a rule of the header.
use native.Mathlib.Omega.{arith}
use Rattle.scan_card.proofs.Rules.{refuted, layout, sound_layout_law}
use Rattle.scan_card.proofs.sound_layout.Goals as goal

pub returns-then-s-lt16 : goal.returns-then-s-lt16
returns-then-s-lt16 c = refuted _ (λ h. let f = layout h in omega arith)

pub returns-then-word-ne16 : goal.returns-then-word-ne16
returns-then-word-ne16 c = refuted _ (λ h. let f = layout h in omega arith)

pub returns-then-word-n : goal.returns-then-word-n
returns-then-word-n c = refuted _ (λ h. let f = layout h in omega arith)

pub returns-then-word-s : goal.returns-then-word-s
returns-then-word-s c = refuted _ (λ h. let f = layout h in omega arith)

pub returns-then-s-n : goal.returns-then-s-n
returns-then-s-n c = refuted _ (λ h. let f = layout h in omega arith)

pub returns : goal.returns
returns c = sound_layout_law (omega arith)
