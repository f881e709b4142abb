-- `test_scan::cards::kestrenyo_card_listed` meets its contract.
use mathlib.Core.Path.{sym, ◌∙◌}
use Rattle.test_scan.proofs.cards.kestrenyo_card_listed.Goals as goal

pub returns-then-not-sound : goal.returns-then-not-sound
returns-then-not-sound c = rw (sym c.sound.ensures ∙ c.if-not-sound.true)

pub count_listed-requires : goal.count_listed-requires
count_listed-requires c = sym c.sound.ensures ∙ c.if-not-sound.false

pub returns : goal.returns
returns c = rw (sym c.sound.ensures ∙ c.if-not-sound.false) c.count_listed.ensures
