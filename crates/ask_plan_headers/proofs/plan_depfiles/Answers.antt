-- `ask_plan_headers::plan_depfiles` meets its contract. Where the arrays are at hand nothing is searched for: that would compute them.
use Prim.Native.Nat.{ℕ}
use mathlib.Core.Path.{sym, ◌∙◌}
use lib.ListN.{length-replicate}
use Rattle.spec.specs.Limits.{max_headers, max_text, max_path}
use Rattle.hold_reading.specs.Held.{columns_end}
use Rattle.ask_plan_headers.proofs.Headed.{ask_lists, ask_heads, ask_second, planned, refused}
use Rattle.ask_plan_headers.proofs.plan_depfiles.Goals as goal

pub slice_bounds-index_lists-end : goal.slice_bounds-index_lists-end
slice_bounds-index_lists-end c = sym (length-replicate {A = ℕ} max_headers 0)

pub index_lists-n-requires : goal.index_lists-n-requires
index_lists-n-requires c = ask_lists c.requires (length-replicate {A = ℕ} max_headers 0)

pub slice_bounds-head_steps-end : goal.slice_bounds-head_steps-end
slice_bounds-head_steps-end c = sym (c.index_lists-n.auto.order ∙ length-replicate {A = ℕ} max_headers 0)

pub slice_bounds-head_steps-end-2 : goal.slice_bounds-head_steps-end-2
slice_bounds-head_steps-end-2 c = sym (length-replicate {A = ℕ} columns_end 0)

pub slice_bounds-head_steps-end-3 : goal.slice_bounds-head_steps-end-3
slice_bounds-head_steps-end-3 c = sym (length-replicate {A = ℕ} max_text 0)

pub slice_bounds-head_steps-end-4 : goal.slice_bounds-head_steps-end-4
slice_bounds-head_steps-end-4 c = sym (length-replicate {A = ℕ} max_path 0)

pub head_steps-requires : goal.head_steps-requires
head_steps-requires c = ask_heads c.requires c.index_lists-n.ensures.promise (length-replicate {A = ℕ} columns_end 0) (length-replicate {A = ℕ} max_text 0) (length-replicate {A = ℕ} max_path 0)

pub slice_bounds-plan_second-end : goal.slice_bounds-plan_second-end
slice_bounds-plan_second-end c = sym (c.head_steps.auto.second ∙ length-replicate {A = ℕ} columns_end 0)

pub plan_second-requires : goal.plan_second-requires
plan_second-requires c = ask_second c.requires c.head_steps.ensures.promise c.in-Ok.is

pub zero_words_from-requires : goal.zero_words_from-requires
zero_words_from-requires c = tt

pub shape_of-names-in-Ok : goal.shape_of-names-in-Ok
shape_of-names-in-Ok c = c.head_steps.auto.names

pub shape_of-index-in-Ok : goal.shape_of-index-in-Ok
shape_of-index-in-Ok c = c.head_steps.auto.index

pub shape_of-list-in-Ok : goal.shape_of-list-in-Ok
shape_of-list-in-Ok c = c.plan_second.auto.list

pub returns-in-Ok : goal.returns-in-Ok
returns-in-Ok c = record { space = (record { long = (c.head_steps.auto.names) }, record { long = (c.head_steps.auto.index) }); promise = planned c.head_steps.ensures.promise c.in-Ok.is c.plan_second.ensures }

pub shape_of-names-in-Err : goal.shape_of-names-in-Err
shape_of-names-in-Err c = c.head_steps.auto.names

pub shape_of-index-in-Err : goal.shape_of-index-in-Err
shape_of-index-in-Err c = c.head_steps.auto.index

pub shape_of-list-in-Err : goal.shape_of-list-in-Err
shape_of-list-in-Err c = c.zero_words_from.auto.buf

pub returns-in-Err : goal.returns-in-Err
returns-in-Err c = record { space = (record { long = (c.head_steps.auto.names) }, record { long = (c.head_steps.auto.index) }); promise = refused c.head_steps.ensures.promise c.in-Err.is c.zero_words_from.ensures }
