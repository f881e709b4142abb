-- `hold_bindings::newest_from` meets its contract.
use native.Mathlib.Omega.{arith}
use Rattle.hold_bindings.proofs.Scopes.{out_begin, out_found, out_none, out_less, out_more}
use Rattle.hold_bindings.proofs.newest_from.Goals as goal

pub loop-e-init : goal.loop-e-init
loop-e-init c = out_begin _ c.requires

pub overflow_mul-k : goal.overflow_mul-k
overflow_mul-k c = omega (arith, c.loop-e.invariant.within c.requires.log c.requires.held, c.requires.held.scopes.few)

pub newest-requires : goal.newest-requires
newest-requires c = record { log = c.requires.log; held = c.requires.held }

pub returns-in-Some : goal.returns-in-Some
returns-in-Some c = out_found c.loop-e.invariant c.newest.ensures c.in-Some.is

pub overflow_add-k : goal.overflow_add-k
overflow_add-k c = omega (arith, c.loop-e.invariant.within c.requires.log c.requires.held, c.requires.held.scopes.few)

pub at-parent-requires : goal.at-parent-requires
at-parent-requires c = omega (arith, c.loop-e.invariant.within c.requires.log c.requires.held, c.requires.held.scopes.few, c.requires.held.rows.bind_long)

pub returns-then-parent-eq0 : goal.returns-then-parent-eq0
returns-then-parent-eq0 c = out_none c.loop-e.invariant c.newest.ensures c.in_default.is c.at-parent.ensures c.if-parent-eq0.true

pub loop-e-smaller : goal.loop-e-smaller
loop-e-smaller c = out_less c.loop-e.invariant c.newest.ensures c.in_default.is c.at-parent.ensures (omega (arith, c.if-parent-eq0.false)) c.requires.log c.requires.held

pub loop-e-preserved : goal.loop-e-preserved
loop-e-preserved c = out_more c.loop-e.invariant c.newest.ensures c.in_default.is c.at-parent.ensures (omega (arith, c.if-parent-eq0.false))
