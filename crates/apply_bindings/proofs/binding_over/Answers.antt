-- `apply_bindings::binding_over` meets its contract.
use Prim.Native.Nat.{◌+◌}
use native.Mathlib.Omega.{arith}
use borrow.Author.Tests.{lt-ltb, le-ltb}
use Rattle.spec.specs.Limits.{max_bindings}
use Rattle.apply_bindings.specs.Limits.{binding_over}
use Rattle.apply_bindings.proofs.binding_over.Goals as goal

pub returns-then-name-gt-NAME : goal.returns-then-name-gt-NAME
unfolding binding_over
returns-then-name-gt-NAME c = rw (lt-ltb _ _ c.if-name-gt-NAME.true)

pub returns-then-value-gt-VALUE : goal.returns-then-value-gt-VALUE
unfolding binding_over
returns-then-value-gt-VALUE c = rw (le-ltb _ _ c.if-name-gt-NAME.false, lt-ltb _ _ c.if-value-gt-VALUE.true)

pub returns-then-c-ge-BINDINGS : goal.returns-then-c-ge-BINDINGS
unfolding binding_over
returns-then-c-ge-BINDINGS c =
    let a = c.args in
    rw (le-ltb _ _ c.if-name-gt-NAME.false, le-ltb _ _ c.if-value-gt-VALUE.false, lt-ltb max_bindings (a.c.bindings + 1) (omega arith))

pub returns : goal.returns
unfolding binding_over
returns c =
    let a = c.args in
    rw (le-ltb _ _ c.if-name-gt-NAME.false, le-ltb _ _ c.if-value-gt-VALUE.false, le-ltb max_bindings (a.c.bindings + 1) (omega arith))
