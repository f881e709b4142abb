-- `apply_rules::add_key` meets its contract.
use borrow.Author.Rules.{rules}
use mathlib.Core.Path.{sym, ◌∙◌}
use native.Mathlib.Omega.{arith}
use Rattle.apply_rules.proofs.Outcomes.{of_rule_law, key_ready, keys_bad, keys_over, keys_go}
use Rattle.apply_rules.proofs.add_key.Goals as goal

pub is_bad_key-requires : goal.is_bad_key-requires
is_bad_key-requires c = of_rule_law c.requires

pub returns-then-is_bad_key : goal.returns-then-is_bad_key
returns-then-is_bad_key c = record { space = search rules; promise = let a = c.args in keys_bad a.start a.head a.entry a.name.now a.raw.now c.is_bad_key.ensures c.if-is_bad_key.true }

pub returns-then-binding_over : goal.returns-then-binding_over
returns-then-binding_over c = record {
  space = search rules;
  promise = let a = c.args in
      keys_over a.start a.head a.entry a.name.now a.raw.now c.is_bad_key.ensures c.if-is_bad_key.false (sym c.binding_over.ensures ∙ c.if-binding_over.true);
}

pub overflow_mul-entry : goal.overflow_mul-entry
overflow_mul-entry c = let p = of_rule_law c.requires in omega (arith, p.below, p.table.held.rows.few)

pub overflow_add-entry : goal.overflow_add-entry
overflow_add-entry c = let p = of_rule_law c.requires in omega (arith, p.below, p.table.held.rows.few)

pub push_binding-d-requires : goal.push_binding-d-requires
push_binding-d-requires c =
    let a = c.args in
    key_ready c.requires a.name.now a.raw.now (sym c.binding_over.ensures ∙ c.if-binding_over.false)

pub returns : goal.returns
returns c = record {
  space = search rules;
  promise = let a = c.args in
      keys_go a.start a.head a.entry a.name.now a.raw.now c.is_bad_key.ensures c.if-is_bad_key.false (sym c.binding_over.ensures ∙ c.if-binding_over.false) c.push_binding-d.ensures;
}
