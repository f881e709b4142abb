use borrow.Author.Rules.{rules}
use native.Mathlib.Omega.{arith}
use Rattle.apply_statements.proofs.Outcomes.{between_sound, turn_met, rule_read, build_read, default_read, open_read, var_read, wrong_read, build_asks, default_asks, value_asks}
use Rattle.cut_refusals.proofs.Cut.{rule_told, build_told, default_told, open_told, binding_told, refused_told}
use Rattle.scan_cursor.specs.Spans.{line_of}
use Rattle.apply_statements.proofs.read_statement.Goals as goal

pub slice_bounds-start_rule-count : goal.slice_bounds-start_rule-count
slice_bounds-start_rule-count c = let s = rule_told (line_of _ _ _) c.cut_file_line.ensures (rw c.in-Ok-Rule.field-0-is at c.in-Ok-Rule.is) in omega (arith, s.1.ordered)

pub slice_bounds-start_rule-start : goal.slice_bounds-start_rule-start
slice_bounds-start_rule-start c = let s = rule_told (line_of _ _ _) c.cut_file_line.ensures (rw c.in-Ok-Rule.field-0-is at c.in-Ok-Rule.is) in omega (arith, s.1.ordered)

pub slice_bounds-start_rule-end : goal.slice_bounds-start_rule-end
slice_bounds-start_rule-end c = let s = rule_told (line_of _ _ _) c.cut_file_line.ensures (rw c.in-Ok-Rule.field-0-is at c.in-Ok-Rule.is) in omega (arith, s.1.within)

pub start_rule-requires : goal.start_rule-requires
start_rule-requires c = between_sound c.requires.between

pub add_step-requires : goal.add_step-requires
add_step-requires c = build_asks (line_of _ _ _) c.requires (build_told (line_of _ _ _) c.cut_file_line.ensures (rw c.in-Ok-Build.field-0-is at c.in-Ok-Build.is))

pub add_defaults-requires : goal.add_defaults-requires
add_defaults-requires c = default_asks (line_of _ _ _) c.requires (default_told (line_of _ _ _) c.cut_file_line.ensures (rw c.in-Ok-Default.field-0-is at c.in-Ok-Default.is))

pub raw_value-raw-requires : goal.raw_value-raw-requires
raw_value-raw-requires c = let s = binding_told (line_of _ _ _) c.cut_file_line.ensures (rw c.in-Ok-Binding.field-0-is at c.in-Ok-Binding.is) in s.places.starts

pub slice_bounds-add_var-count : goal.slice_bounds-add_var-count
slice_bounds-add_var-count c = let s = binding_told (line_of _ _ _) c.cut_file_line.ensures (rw c.in-Ok-Binding.field-0-is at c.in-Ok-Binding.is) in omega (arith, s.places.ordered)

pub slice_bounds-add_var-start : goal.slice_bounds-add_var-start
slice_bounds-add_var-start c = let s = binding_told (line_of _ _ _) c.cut_file_line.ensures (rw c.in-Ok-Binding.field-0-is at c.in-Ok-Binding.is) in omega (arith, s.places.ordered)

pub slice_bounds-add_var-end : goal.slice_bounds-add_var-end
slice_bounds-add_var-end c = let s = binding_told (line_of _ _ _) c.cut_file_line.ensures (rw c.in-Ok-Binding.field-0-is at c.in-Ok-Binding.is) in omega (arith, s.places.within)

pub add_var-requires : goal.add_var-requires
add_var-requires c = value_asks (line_of _ _ _) c.requires (binding_told (line_of _ _ _) c.cut_file_line.ensures (rw c.in-Ok-Binding.field-0-is at c.in-Ok-Binding.is)) c.raw_value-raw.ensures

pub returns-in-Ok-Rule : goal.returns-in-Ok-Rule
returns-in-Ok-Rule c = record { space = search rules; promise = turn_met _ (rule_read (line_of _ _ _) (rule_told (line_of _ _ _) c.cut_file_line.ensures (rw c.in-Ok-Rule.field-0-is at c.in-Ok-Rule.is)) c.start_rule.ensures.promise) c.turned.ensures }

pub returns-in-Ok-Build : goal.returns-in-Ok-Build
returns-in-Ok-Build c = record { space = search rules; promise = turn_met _ (build_read (line_of _ _ _) (build_told (line_of _ _ _) c.cut_file_line.ensures (rw c.in-Ok-Build.field-0-is at c.in-Ok-Build.is)) c.add_step.ensures.promise) c.turned-in-Ok-Build.ensures }

pub returns-in-Ok-Default : goal.returns-in-Ok-Default
returns-in-Ok-Default c = record { space = search rules; promise = turn_met _ (default_read (line_of _ _ _) (default_told (line_of _ _ _) c.cut_file_line.ensures (rw c.in-Ok-Default.field-0-is at c.in-Ok-Default.is)) c.add_defaults.ensures.promise) c.turned-in-Ok-Default.ensures }

pub returns-in-Ok-Open : goal.returns-in-Ok-Open
returns-in-Ok-Open c = record { space = search rules; promise = open_read (line_of _ _ _) (open_told (line_of _ _ _) c.cut_file_line.ensures (rw c.in-Ok-Open.field-0-is at c.in-Ok-Open.is)) }

pub returns-in-Ok-Binding : goal.returns-in-Ok-Binding
returns-in-Ok-Binding c = record { space = search rules; promise = turn_met _ (var_read (line_of _ _ _) (binding_told (line_of _ _ _) c.cut_file_line.ensures (rw c.in-Ok-Binding.field-0-is at c.in-Ok-Binding.is)) c.raw_value-raw.ensures c.add_var.ensures.promise) c.turned-in-Ok-Binding.ensures }

pub returns-in-Err : goal.returns-in-Err
returns-in-Err c = record { space = search rules; promise = wrong_read (line_of _ _ _) (refused_told (line_of _ _ _) c.cut_file_line.ensures c.in-Err.is) }
