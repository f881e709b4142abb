-- `ask_plan::plan_buffered` meets its contract.
use mathlib.Core.Path.{sym, ◌∙◌}
use Rattle.ask_plan.proofs.Planned.{bad_lists, bad_both}
use Rattle.ask_plan.proofs.plan_buffered.Goals as goal

pub has_sound_lists-requires : goal.has_sound_lists-requires
has_sound_lists-requires c = tt

pub plan_with_lists-requires : goal.plan_with_lists-requires
plan_with_lists-requires c = record { sound = sym c.has_sound_lists.ensures ∙ c.if-has_sound_lists.true; room = c.requires }

pub shape_of-list-then-has_sound_lists : goal.shape_of-list-then-has_sound_lists
shape_of-list-then-has_sound_lists c = c.plan_with_lists.auto.list

pub returns-then-has_sound_lists : goal.returns-then-has_sound_lists
returns-then-has_sound_lists c = c.plan_with_lists.ensures

pub zero_words_from-requires : goal.zero_words_from-requires
zero_words_from-requires c = tt

pub is_sound_bundle-requires : goal.is_sound_bundle-requires
is_sound_bundle-requires c = tt

pub shape_of-list-then-is_sound_bundle : goal.shape_of-list-then-is_sound_bundle
shape_of-list-then-is_sound_bundle c = c.zero_words_from.auto.buf

pub returns-then-is_sound_bundle : goal.returns-then-is_sound_bundle
returns-then-is_sound_bundle c = bad_lists _ _ _ _ _ c.requires (sym c.has_sound_lists.ensures ∙ c.if-has_sound_lists.false) c.zero_words_from.ensures (sym c.is_sound_bundle.ensures ∙ c.if-is_sound_bundle.true)

pub shape_of-list : goal.shape_of-list
shape_of-list c = c.zero_words_from.auto.buf

pub returns : goal.returns
returns c = bad_both _ _ _ _ _ c.requires (sym c.has_sound_lists.ensures ∙ c.if-has_sound_lists.false) c.zero_words_from.ensures (sym c.is_sound_bundle.ensures ∙ c.if-is_sound_bundle.false)
