-- `hold_bindings::newest_seen` meets its contract.
use Prim.Native.Nat.{ℕ}
use mathlib.Core.Path.{◌∙◌, ap}
use native.Mathlib.Omega.{arith}
use Rattle.hold_bindings.specs.Log.{scoping_of, newest_from}
use Rattle.hold_bindings.proofs.newest_seen.Goals as goal

pub newest_from-requires : goal.newest_from-requires
newest_from-requires c =
    let s = c.requires in
    record { log = s.log; held = s.held; below = omega (arith, c.current_scope.ensures (scoping_of s.log) s.held.scopes, s.held.scopes.below) }

pub returns : goal.returns
returns c = λ log h. c.newest_from.ensures log h ∙ ap (λ (k : ℕ). newest_from k c.args.wanted.now log) (c.current_scope.ensures (scoping_of log) h.scopes)
