-- `apply_variables::add_var` meets its contract.
-- past the limits
use mathlib.Core.Bool.{false}
use mathlib.Core.Path.{◌≡◌, sym, ◌∙◌}
use borrow.Author.Rules.{rules}
use lib.ListN.{length}
use native.Mathlib.Omega.{arith}
use Rattle.apply_bindings.specs.Limits.{binding_over}
use Rattle.apply_variables.proofs.Outcomes.{var_over, var_valued}
use Rattle.apply_variables.proofs.Values.{value_fits, value_counted}
use Rattle.apply_variables.proofs.add_var.Goals as goal

pub returns-then-binding_over : goal.returns-then-binding_over
returns-then-binding_over c = record {
  space = search rules;
  promise = let a = c.args in
      var_over a.start a.name.now a.raw.now c.expand-n.ensures (sym c.binding_over.ensures ∙ c.if-binding_over.true);
}

pub slice_bounds-set_var-end : goal.slice_bounds-set_var-end
slice_bounds-set_var-end c = let inside : binding_over (length c.args.name.now) c.expand-n.result c.args.c ≡ false = sym c.binding_over.ensures ∙ c.if-binding_over.false in
    omega (arith, value_fits c.requires _ _ (inside))

pub slice_bounds-set_var-end-2 : goal.slice_bounds-set_var-end-2
slice_bounds-set_var-end-2 c = let inside : binding_over (length c.args.name.now) c.expand-n.result c.args.c ≡ false = sym c.binding_over.ensures ∙ c.if-binding_over.false in
    sym (value_counted c.requires _ _ (inside) c.expand-n.ensures)

pub set_var-requires : goal.set_var-requires
set_var-requires c =
    let inside : binding_over (length c.args.name.now) c.expand-n.result c.args.c ≡ false = sym c.binding_over.ensures ∙ c.if-binding_over.false in
    record { sound = c.requires.sound; within = rw (value_counted c.requires _ _ (inside) c.expand-n.ensures) (inside) }

pub returns : goal.returns
returns c = let inside : binding_over (length c.args.name.now) c.expand-n.result c.args.c ≡ false = sym c.binding_over.ensures ∙ c.if-binding_over.false in
    record {
      space = search rules;
      promise =
          let a = c.args in
          var_valued a.start a.name.now a.raw.now c.expand-n.ensures (value_fits c.requires _ _ (inside)) c.set_var.ensures.promise;
    }
