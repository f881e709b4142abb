-- `ask_plan::plan_with_lists` meets its contract. Where the arrays are at hand nothing is searched for: that would compute them.
use Prim.Native.Nat.{ℕ, ◌+◌}
use mathlib.Core.Path.{sym, ◌∙◌}
use lib.ListN.{length-replicate}
use Rattle.spec.specs.Limits.{max_written, max_value, max_manifest}
use Rattle.hold_names.specs.Table.{max_numbers}
use Rattle.hold_bindings.specs.Held.{max_texts, max_rows}
use Rattle.hold_reading.specs.Held.{columns_end}
use Rattle.apply_manifest.proofs.Answers.{read_accepted, read_refused}
use Rattle.apply_manifest.proofs.Buffers.{roomy}
use Rattle.ask_plan.proofs.Planned.{unread, planned, askable}
use Rattle.ask_plan.proofs.plan_with_lists.Goals as goal

pub table-t-requires : goal.table-t-requires
table-t-requires c = tt

pub slice_bounds-read_manifest-end : goal.slice_bounds-read_manifest-end
slice_bounds-read_manifest-end c = sym (length-replicate {A = ℕ} max_written 0)

pub slice_bounds-read_manifest-end-2 : goal.slice_bounds-read_manifest-end-2
slice_bounds-read_manifest-end-2 c = sym (length-replicate {A = ℕ} max_numbers 0)

pub slice_bounds-read_manifest-end-3 : goal.slice_bounds-read_manifest-end-3
slice_bounds-read_manifest-end-3 c = sym (length-replicate {A = ℕ} max_texts 0)

pub slice_bounds-read_manifest-end-4 : goal.slice_bounds-read_manifest-end-4
slice_bounds-read_manifest-end-4 c = sym (length-replicate {A = ℕ} max_rows 0)

pub slice_bounds-read_manifest-end-5 : goal.slice_bounds-read_manifest-end-5
slice_bounds-read_manifest-end-5 c = sym (length-replicate {A = ℕ} (columns_end + max_manifest) 0)

pub slice_bounds-read_manifest-end-6 : goal.slice_bounds-read_manifest-end-6
slice_bounds-read_manifest-end-6 c = sym (length-replicate {A = ℕ} max_value 0)

pub read_manifest-requires : goal.read_manifest-requires
read_manifest-requires c = roomy c.table-t.ensures (length-replicate {A = ℕ} max_written 0) (length-replicate {A = ℕ} max_numbers 0) (length-replicate {A = ℕ} max_texts 0) (length-replicate {A = ℕ} max_rows 0) (length-replicate {A = ℕ} (columns_end + max_manifest) 0) (length-replicate {A = ℕ} max_value 0)

pub slice_bounds-plan_read-end : goal.slice_bounds-plan_read-end
slice_bounds-plan_read-end c = sym (c.read_manifest.auto.names ∙ length-replicate {A = ℕ} max_written 0)

pub slice_bounds-plan_read-end-in-Ok : goal.slice_bounds-plan_read-end-in-Ok
slice_bounds-plan_read-end-in-Ok c = sym (c.read_manifest.auto.index ∙ length-replicate {A = ℕ} max_numbers 0)

pub slice_bounds-plan_read-end-in-Ok-2 : goal.slice_bounds-plan_read-end-in-Ok-2
slice_bounds-plan_read-end-in-Ok-2 c = sym (c.read_manifest.auto.texts ∙ length-replicate {A = ℕ} max_texts 0)

pub slice_bounds-plan_read-end-in-Ok-3 : goal.slice_bounds-plan_read-end-in-Ok-3
slice_bounds-plan_read-end-in-Ok-3 c = sym (c.read_manifest.auto.bind ∙ length-replicate {A = ℕ} max_rows 0)

pub slice_bounds-plan_read-end-in-Ok-4 : goal.slice_bounds-plan_read-end-in-Ok-4
slice_bounds-plan_read-end-in-Ok-4 c = sym (c.read_manifest.auto.graph ∙ length-replicate {A = ℕ} (columns_end + max_manifest) 0)

pub plan_read-requires : goal.plan_read-requires
plan_read-requires c = askable c.requires c.table-t.ensures (c.read_manifest.auto.names ∙ length-replicate {A = ℕ} max_written 0) (read_accepted _ _ c.read_manifest.ensures.promise c.in-Ok.is)

pub zero_words_from-requires : goal.zero_words_from-requires
zero_words_from-requires c = tt

pub shape_of-list-in-Ok : goal.shape_of-list-in-Ok
shape_of-list-in-Ok c = c.plan_read.auto.list

pub returns-in-Ok : goal.returns-in-Ok
returns-in-Ok c = planned _ _ _ _ _ c.requires (read_accepted _ _ c.read_manifest.ensures.promise c.in-Ok.is) c.plan_read.ensures.promise

pub shape_of-list-in-Err : goal.shape_of-list-in-Err
shape_of-list-in-Err c = c.zero_words_from.auto.buf

pub returns-in-Err : goal.returns-in-Err
returns-in-Err c = unread _ _ _ _ _ c.requires (read_refused _ _ c.read_manifest.ensures.promise c.in-Err.is) c.zero_words_from.ensures
