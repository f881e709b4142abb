-- `graph_order::place` meets its contract.
use mathlib.Core.Path.{sym, ◌∙◌}
use native.Mathlib.Omega.{arith}
use borrow.Author.Count.{below_more}
use Rattle.graph_order.proofs.place.Goals as goal

pub loop-j-init : goal.loop-j-init
loop-j-init c = (omega arith, λ i b. absurd (omega arith))

pub returns-then-at-x : goal.returns-then-at-x
returns-then-at-x c = record { within = omega arith; first = c.loop-j.invariant.1; found = λ b. sym c.at.ensures ∙ c.if-at-x.true }

pub loop-j-preserved : goal.loop-j-preserved
loop-j-preserved c = (omega arith, below_more _ _ c.loop-j.invariant.1 (λ e. c.if-at-x.false (c.at.ensures ∙ e)))

pub returns : goal.returns
returns c = record { within = omega arith; first = λ i b. c.loop-j.invariant.1 i (omega arith); found = λ b. absurd (omega arith) }
