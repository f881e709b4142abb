-- `ask_plan_reading::plan_read` meets its contract.
use mathlib.Core.Path.{refl, sym, ◌∙◌}
use Rattle.ask_plan_reading.proofs.Outcomes.{bad_card, good_card}
use Rattle.ask_plan_reading.proofs.plan_read.Goals as goal

pub sound-requires : goal.sound-requires
sound-requires c = tt

pub zero_words_from-requires : goal.zero_words_from-requires
zero_words_from-requires c = tt

pub shape_of-list-then-not-sound : goal.shape_of-list-then-not-sound
shape_of-list-then-not-sound c = c.zero_words_from.auto.buf

pub returns-then-not-sound : goal.returns-then-not-sound
returns-then-not-sound c = record { space = (record { long = refl }, record { long = refl }); promise = bad_card (sym c.sound.ensures ∙ c.if-not-sound.true) c.zero_words_from.ensures }

pub plan_targets-requires : goal.plan_targets-requires
plan_targets-requires c = record { asked = c.requires; sound = sym c.sound.ensures ∙ c.if-not-sound.false }

pub shape_of-names : goal.shape_of-names
shape_of-names c = c.plan_targets.auto.names

pub shape_of-index : goal.shape_of-index
shape_of-index c = c.plan_targets.auto.index

pub shape_of-list : goal.shape_of-list
shape_of-list c = c.plan_targets.auto.list

pub returns : goal.returns
returns c = record { space = c.plan_targets.ensures.space; promise = good_card (sym c.sound.ensures ∙ c.if-not-sound.false) c.plan_targets.ensures.promise }
