use Rattle.hold_bindings.proofs.Scopes.{Outward}
use Rattle.hold_bindings.proofs.newest_from.Given as goal

abbrev pub invariant-loop-e : goal.invariant-loop-e
invariant-loop-e l = Outward l.texts l.bind l.count l.scope l.wanted l.k

abbrev pub decreases-loop-e : goal.decreases-loop-e
decreases-loop-e l = l.k
