-- `test_scan::cards::kestrenyo_card_time` meets its contract.
use mathlib.Core.Path.{sym, ◌∙◌}
use Rattle.test_scan.proofs.cards.kestrenyo_card_time.Goals as goal

pub returns-then-not-sound : goal.returns-then-not-sound
returns-then-not-sound c = rw (sym c.sound.ensures ∙ c.if-not-sound.true)

pub time_of-requires : goal.time_of-requires
time_of-requires c = sym c.sound.ensures ∙ c.if-not-sound.false

pub returns : goal.returns
returns c = rw (sym c.sound.ensures ∙ c.if-not-sound.false) c.time_of.ensures
