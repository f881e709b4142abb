-- `scan_card::sound_record` meets its contract: each test is a rule of a record.
use native.Mathlib.Omega.{arith}
use Rattle.spec.specs.Card.{record_at}
use Rattle.scan_card.proofs.Rules.{refuted, fair, sound_record_law}
use Rattle.scan_card.proofs.sound_record.Goals as goal

pub returns-then-word-start : goal.returns-then-word-start
unfolding record_at
returns-then-word-start c = refuted _ (λ h. let f = fair h in omega arith)

pub returns-then-size-lt1 : goal.returns-then-size-lt1
unfolding record_at
returns-then-size-lt1 c = refuted _ (λ h. let f = fair h in omega arith)

pub returns-then-size-gt-PATH : goal.returns-then-size-gt-PATH
unfolding record_at
returns-then-size-gt-PATH c = refuted _ (λ h. let f = fair h in omega arith)

pub returns-then-time-lt1 : goal.returns-then-time-lt1
unfolding record_at
returns-then-time-lt1 c = refuted _ (λ h. let f = fair h in omega arith)

pub returns-then-time-gt9223372036854775807 : goal.returns-then-time-gt9223372036854775807
unfolding record_at
returns-then-time-gt9223372036854775807 c = refuted _ (λ h. let f = fair h in omega arith)

pub returns : goal.returns
unfolding record_at
returns c = sound_record_law (omega arith)
