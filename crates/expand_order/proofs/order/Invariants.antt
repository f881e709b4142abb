use Rattle.expand_order.proofs.Matching.{Matching}
use Rattle.expand_parts.specs.Runs.{most}
use Rattle.expand_order.proofs.order.Given as goal

abbrev pub invariant-loop-n : goal.invariant-loop-n
invariant-loop-n l = Matching l.t l.a l.b l.texts l.bind l.count l.x l.y

abbrev pub decreases-loop-n : goal.decreases-loop-n
decreases-loop-n l = most l.a l.x
