use borrow.Author.Rules.{rules}
use Rattle.apply_open.proofs.Entering.{scope_asked, scope_room, not_entered, is_entered}
use native.Mathlib.Omega.{arith}
use Rattle.apply_open.proofs.enter.Goals as goal

pub current_scope-scope-requires : goal.current_scope-scope-requires
current_scope-scope-requires c = scope_asked c.requires

pub overflow_add-written : goal.overflow_add-written
overflow_add-written c = omega (arith, c.requires.low)

pub overflow_add-opened : goal.overflow_add-opened
overflow_add-opened c = omega (arith, c.requires.few)

pub enter_scope-requires : goal.enter_scope-requires
enter_scope-requires c = scope_room c.requires

pub returns-then-sub : goal.returns-then-sub
returns-then-sub c = record { space = search rules; promise = is_entered c.requires c.current_scope-scope.ensures c.if-sub.true c.enter_scope.ensures }

pub returns : goal.returns
returns c = record { space = search rules; promise = not_entered c.requires c.current_scope-scope.ensures c.if-sub.false }
