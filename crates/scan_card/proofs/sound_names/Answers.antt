-- `scan_card::sound_names` meets its contract: what is left of the rules stays the same from turn to turn.
use mathlib.Core.Path.{sym, ◌∙◌}
use native.Mathlib.Omega.{arith}
use Rattle.lists.specs.Tests.{differ}
use Rattle.spec.specs.Card.{record_at}
use Rattle.scan_card.proofs.Naming.{naming_begin, naming_end, turn, turned}
use Rattle.scan_card.proofs.Rules.{refuted}
use Rattle.scan_card.proofs.sound_names.Goals as goal

pub loop-k-init : goal.loop-k-init
loop-k-init c = naming_begin c.requires

pub returns-then-not-sound_record : goal.returns-then-not-sound_record
returns-then-not-sound_record c = refuted _ (λ h. differ (turn c.loop-k.invariant c.loop-k-test.true h).fair (sym c.sound_record.ensures ∙ c.if-not-sound_record.true))

pub returns-then-card-end : goal.returns-then-card-end
unfolding record_at
returns-then-card-end c = refuted _ (λ h. let t = turn c.loop-k.invariant c.loop-k-test.true h in omega (arith, c.word.ensures.is))

pub returns-then-not-less : goal.returns-then-not-less
unfolding record_at
returns-then-not-less c = refuted _ (λ h. differ (turn c.loop-k.invariant c.loop-k-test.true h).less (rw (← c.word.ensures.is) (sym c.less.ensures ∙ c.if-not-less.true)))

pub loop-k-preserved : goal.loop-k-preserved
unfolding record_at
loop-k-preserved c =
    turned c.loop-k.invariant c.loop-k-test.true _ c.word.ensures.is (sym c.sound_record.ensures ∙ c.if-not-sound_record.false) c.if-card-end.false (sym c.less.ensures ∙ c.if-not-less.false)

pub returns : goal.returns
returns c = naming_end c.loop-k.invariant c.loop-k-test.false
