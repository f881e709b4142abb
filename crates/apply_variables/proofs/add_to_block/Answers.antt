-- `apply_variables::add_to_block` meets its contract.
-- past the limits
use mathlib.Core.Bool.{false}
use mathlib.Core.Path.{◌≡◌, sym, ◌∙◌}
use borrow.Author.Rules.{rules}
use lib.ListN.{length}
use native.Mathlib.Omega.{arith}
use Rattle.apply_bindings.specs.Limits.{binding_over}
use Rattle.apply_variables.proofs.Outcomes.{line_over, line_goes, step_begun, line_ready}
use Rattle.apply_variables.proofs.Values.{value_fits, value_counted}
use Rattle.apply_variables.proofs.add_to_block.Goals as goal

pub returns-then-binding_over : goal.returns-then-binding_over
returns-then-binding_over c = record {
  space = search rules;
  promise = let a = c.args in
      line_over a.start a.name.now a.raw.now c.expand-len.ensures (sym c.binding_over.ensures ∙ c.if-binding_over.true);
}

pub overflow_sub-c : goal.overflow_sub-c
overflow_sub-c c = omega (arith, step_begun c.requires.sound)

pub slice_bounds-push_binding-end : goal.slice_bounds-push_binding-end
slice_bounds-push_binding-end c = let inside : binding_over (length c.args.name.now) c.expand-len.result c.args.c ≡ false = sym c.binding_over.ensures ∙ c.if-binding_over.false in
    omega (arith, value_fits c.requires _ _ (inside))

pub slice_bounds-push_binding-end-2 : goal.slice_bounds-push_binding-end-2
slice_bounds-push_binding-end-2 c = let inside : binding_over (length c.args.name.now) c.expand-len.result c.args.c ≡ false = sym c.binding_over.ensures ∙ c.if-binding_over.false in
    sym (value_counted c.requires _ _ (inside) c.expand-len.ensures)

pub push_binding-d-requires : goal.push_binding-d-requires
push_binding-d-requires c =
    let inside : binding_over (length c.args.name.now) c.expand-len.result c.args.c ≡ false = sym c.binding_over.ensures ∙ c.if-binding_over.false in
    line_ready c.requires.sound c.args.name.now _ (rw (value_counted c.requires _ _ (inside) c.expand-len.ensures) (inside))

pub returns : goal.returns
returns c = let inside : binding_over (length c.args.name.now) c.expand-len.result c.args.c ≡ false = sym c.binding_over.ensures ∙ c.if-binding_over.false in
    record {
      space = search rules;
      promise =
          let a = c.args in
          line_goes a.start a.name.now a.raw.now c.expand-len.ensures (value_fits c.requires _ _ (inside)) (rw (value_counted c.requires _ _ (inside) c.expand-len.ensures) (inside)) c.push_binding-d.ensures;
    }
