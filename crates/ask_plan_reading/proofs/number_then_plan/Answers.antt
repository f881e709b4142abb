-- `ask_plan_reading::number_then_plan` meets its contract.
use mathlib.Core.Path.{refl, sym}
use lib.Seq.{length-take-le}
use Rattle.ask_plan_reading.proofs.Outcomes.{numbering, bad_target_law, good_targets, numbers_within, columns}
use Rattle.ask_plan_reading.proofs.number_then_plan.Goals as goal

pub number_targets-requires : goal.number_targets-requires
number_targets-requires c = numbering c.requires

pub zero_words_from-requires : goal.zero_words_from-requires
zero_words_from-requires c = tt

pub slice_bounds-plan_columns-end : goal.slice_bounds-plan_columns-end
slice_bounds-plan_columns-end c = numbers_within c.number_targets.ensures.promise c.in-Ok.is c.requires

pub slice_bounds-plan_columns-end-in-Ok : goal.slice_bounds-plan_columns-end-in-Ok
slice_bounds-plan_columns-end-in-Ok c = sym (length-take-le _ _ (numbers_within c.number_targets.ensures.promise c.in-Ok.is c.requires))

pub plan_columns-requires : goal.plan_columns-requires
plan_columns-requires c = columns c.number_targets.ensures.promise c.in-Ok.is c.requires c.number_targets.auto.out

pub shape_of-names-in-Err : goal.shape_of-names-in-Err
shape_of-names-in-Err c = refl

pub shape_of-index-in-Err : goal.shape_of-index-in-Err
shape_of-index-in-Err c = refl

pub shape_of-numbers-in-Err : goal.shape_of-numbers-in-Err
shape_of-numbers-in-Err c = c.number_targets.auto.out

pub shape_of-list-in-Err : goal.shape_of-list-in-Err
shape_of-list-in-Err c = c.zero_words_from.auto.buf

pub returns-in-Err : goal.returns-in-Err
returns-in-Err c = record { space = (record { long = refl }, record { long = refl }, record { long = (c.number_targets.auto.out) }); promise = bad_target_law c.zero_words_from.ensures c.number_targets.ensures.promise c.in-Err.is }

pub shape_of-names-in-Ok : goal.shape_of-names-in-Ok
shape_of-names-in-Ok c = c.plan_columns.auto.names

pub shape_of-index-in-Ok : goal.shape_of-index-in-Ok
shape_of-index-in-Ok c = c.plan_columns.auto.index

pub shape_of-numbers-in-Ok : goal.shape_of-numbers-in-Ok
shape_of-numbers-in-Ok c = c.number_targets.auto.out

pub shape_of-list-in-Ok : goal.shape_of-list-in-Ok
shape_of-list-in-Ok c = c.plan_columns.auto.list

pub returns-in-Ok : goal.returns-in-Ok
returns-in-Ok c = record { space = (c.plan_columns.ensures.space.0, c.plan_columns.ensures.space.1, record { long = (c.number_targets.auto.out) }); promise = good_targets c.number_targets.ensures.promise c.in-Ok.is c.plan_columns.ensures.promise }
