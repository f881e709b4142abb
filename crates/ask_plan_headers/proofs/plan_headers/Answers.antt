-- `ask_plan_headers::plan_headers` meets its contract.
use mathlib.Core.Path.{refl}
use Rattle.ask_plan_headers.proofs.Unlisted.{ask_bound, ask_unlisted, planned_unlisted}
use Rattle.ask_plan_headers.proofs.plan_headers.Goals as goal

pub depfile_bound-requires : goal.depfile_bound-requires
depfile_bound-requires c = ask_bound c.requires

pub plan_depfiles-requires : goal.plan_depfiles-requires
plan_depfiles-requires c = c.requires

pub shape_of-names-then-depfile_bound : goal.shape_of-names-then-depfile_bound
shape_of-names-then-depfile_bound c = c.plan_depfiles.auto.names

pub shape_of-index-then-depfile_bound : goal.shape_of-index-then-depfile_bound
shape_of-index-then-depfile_bound c = c.plan_depfiles.auto.index

pub shape_of-list-then-depfile_bound : goal.shape_of-list-then-depfile_bound
shape_of-list-then-depfile_bound c = c.plan_depfiles.auto.list

pub returns-then-depfile_bound : goal.returns-then-depfile_bound
returns-then-depfile_bound c = c.plan_depfiles.ensures

pub plan_unlisted-requires : goal.plan_unlisted-requires
plan_unlisted-requires c = ask_unlisted c.requires

pub shape_of-names : goal.shape_of-names
shape_of-names c = refl

pub shape_of-index : goal.shape_of-index
shape_of-index c = refl

pub shape_of-list : goal.shape_of-list
shape_of-list c = c.plan_unlisted.auto.list

pub returns : goal.returns
returns c = record { space = (record { long = refl }, record { long = refl }); promise = planned_unlisted c.depfile_bound.ensures c.if-depfile_bound.false c.plan_unlisted.ensures }
