-- `scan_bundle::end_of` meets its contract: what is left of the extents ends as all of them do.
use native.Mathlib.Omega.{arith}
use Rattle.spec.specs.Bundle.{extent_at}
use Rattle.scan_bundle.proofs.Running.{run_begin, run_broken, run_on, run_end}
use Rattle.scan_bundle.proofs.end_of.Goals as goal

pub loop-k-init : goal.loop-k-init
loop-k-init c = run_begin _ _ _ _ _ _

pub returns-then-word-end : goal.returns-then-word-end
unfolding extent_at
returns-then-word-end c = run_broken c.loop-k.invariant c.loop-k-test.true (λ f. omega arith)

pub returns-then-size-least : goal.returns-then-size-least
unfolding extent_at
returns-then-size-least c = run_broken c.loop-k.invariant c.loop-k-test.true (λ f. omega arith)

pub returns-then-most-size : goal.returns-then-most-size
unfolding extent_at
returns-then-most-size c = run_broken c.loop-k.invariant c.loop-k-test.true (λ f. omega arith)

pub loop-k-preserved : goal.loop-k-preserved
unfolding extent_at
loop-k-preserved c = run_on c.loop-k.invariant c.loop-k-test.true _ c.word-size.ensures.is c.word-size.ensures.small (omega arith)

pub returns : goal.returns
returns c = run_end c.loop-k.invariant c.loop-k-test.false
