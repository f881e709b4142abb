-- `apply_variables::set_var` meets its contract.
use borrow.Author.Rules.{rules}
use mathlib.Core.Path.{sym, ◌∙◌}
use native.Mathlib.Omega.{arith}
use Rattle.hold_reading.proofs.Lift.{none_bound}
use Rattle.apply_variables.proofs.Outcomes.{var_wrong, var_goes, var_scopes, var_ready}
use Rattle.apply_variables.proofs.set_var.Goals as goal

pub returns-then-is_wrong_version : goal.returns-then-is_wrong_version
returns-then-is_wrong_version c = record {
  space = search rules;
  promise = let a = c.args in
      var_wrong a.start a.name.now a.value.now c.requires.within (sym c.is_wrong_version.ensures ∙ c.if-is_wrong_version.true);
}

pub current_scope-scope-requires : goal.current_scope-scope-requires
current_scope-scope-requires c =
    let a = c.args in
    let s = c.requires.sound in
    ((none_bound s.known).held.rows.bind_long, var_scopes a.start a.name.now a.value.now c.requires.within s)

pub overflow_mul-scope : goal.overflow_mul-scope
overflow_mul-scope c =
    let d = (none_bound c.requires.sound.known).held.scopes in
    omega (arith, c.current_scope-scope.ensures _ d, d.below, d.few)

pub push_binding-d-requires : goal.push_binding-d-requires
push_binding-d-requires c =
    let a = c.args in
    var_ready a.start a.name.now a.value.now c.requires.within c.current_scope-scope.ensures c.requires.sound

pub returns : goal.returns
returns c = record {
  space = search rules;
  promise = let a = c.args in
      var_goes a.start a.name.now a.value.now c.requires.within c.current_scope-scope.ensures (sym c.is_wrong_version.ensures ∙ c.if-is_wrong_version.false) c.push_binding-d.ensures;
}
