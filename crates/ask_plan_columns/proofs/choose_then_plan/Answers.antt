-- `ask_plan_columns::choose_then_plan` meets its contract.
use mathlib.Core.Path.{refl, sym}
use lib.Seq.{length-take-le}
use Rattle.ask_plan_columns.proofs.Columns.{choice, roots_within, rootless, from_roots, rooted}
use Rattle.ask_plan_columns.proofs.choose_then_plan.Goals as goal

pub choose_roots-requires : goal.choose_roots-requires
choose_roots-requires c = choice c.requires

pub zero_words_from-requires : goal.zero_words_from-requires
zero_words_from-requires c = tt

pub slice_bounds-plan_headers-end : goal.slice_bounds-plan_headers-end
slice_bounds-plan_headers-end c = roots_within c.choose_roots.ensures c.in-Some.is

pub slice_bounds-plan_headers-end-2 : goal.slice_bounds-plan_headers-end-2
slice_bounds-plan_headers-end-2 c = sym (length-take-le _ _ (roots_within c.choose_roots.ensures c.in-Some.is))

pub plan_headers-requires : goal.plan_headers-requires
plan_headers-requires c = from_roots c.choose_roots.ensures c.in-Some.is c.requires

pub shape_of-out-in_default : goal.shape_of-out-in_default
shape_of-out-in_default c = c.choose_roots.auto.out

pub shape_of-list-in_default : goal.shape_of-list-in_default
shape_of-list-in_default c = c.zero_words_from.auto.buf

pub returns-in_default : goal.returns-in_default
returns-in_default c = record { space = (record { long = refl }, record { long = refl }, record { long = (c.choose_roots.auto.out) }); promise = rootless c.choose_roots.ensures c.in_default.is c.zero_words_from.ensures }

pub shape_of-names : goal.shape_of-names
shape_of-names c = c.plan_headers.auto.names

pub shape_of-index : goal.shape_of-index
shape_of-index c = c.plan_headers.auto.index

pub shape_of-out : goal.shape_of-out
shape_of-out c = c.choose_roots.auto.out

pub shape_of-list : goal.shape_of-list
shape_of-list c = c.plan_headers.auto.list

pub returns : goal.returns
returns c = record { space = (c.plan_headers.ensures.space.0, c.plan_headers.ensures.space.1, record { long = (c.choose_roots.auto.out) }); promise = rooted c.choose_roots.ensures c.in-Some.is c.plan_headers.ensures.promise }
