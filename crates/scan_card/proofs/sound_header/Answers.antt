-- `scan_card::sound_header` meets its contract: the layout, and the bounds of a card.
use mathlib.Core.Path.{sym, ◌∙◌}
use native.Mathlib.Omega.{arith}
use Rattle.lists.specs.Tests.{differ}
use Rattle.scan_card.proofs.Rules.{refuted, layout, header, header_layout, sound_header_law}
use Rattle.scan_card.proofs.sound_header.Goals as goal

pub returns-then-not-sound_layout : goal.returns-then-not-sound_layout
returns-then-not-sound_layout c = refuted _ (λ h. differ (header_layout _ h) (sym c.sound_layout.ensures ∙ c.if-not-sound_layout.true))

pub returns-then-card-gt-CARD : goal.returns-then-card-gt-CARD
returns-then-card-gt-CARD c = refuted _ (λ h. let f = header h in omega arith)

pub word-requires : goal.word-requires
word-requires c = let l = layout (sym c.sound_layout.ensures ∙ c.if-not-sound_layout.false) in omega arith

pub returns-then-word-gt-RECORDS : goal.returns-then-word-gt-RECORDS
returns-then-word-gt-RECORDS c = refuted _ (λ h. let f = header h in omega arith)

pub returns : goal.returns
returns c = sound_header_law _ (sym c.sound_layout.ensures ∙ c.if-not-sound_layout.false) (omega arith) (omega arith)
