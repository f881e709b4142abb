-- `apply_step_lists::two` meets its contract.
use native.Mathlib.Omega.{arith}
use borrow.Author.Rules.{rules}
use Rattle.apply_step_lists.proofs.Listing.{two_first, two_second, two_on, two_over}
use Rattle.apply_step_lists.proofs.two.Goals as goal

pub one-requires : goal.one-requires
one-requires c = two_first c.requires

pub overflow_add-second : goal.overflow_add-second
overflow_add-second c = omega (arith, c.requires.low)

pub one-requires-2 : goal.one-requires-2
one-requires-2 c = two_second c.requires (search rules) (search rules) (rw c.in_ok-d.was at c.one.ensures.promise)

pub returns : goal.returns
returns c = record { space = search rules; promise = two_on (rw c.in_ok-d.was at c.one.ensures.promise) c.one-2.ensures.promise }

pub returns-in_err-d : goal.returns-in_err-d
returns-in_err-d c = record { space = search rules; promise = rw c.from_residual.ensures (two_over (rw c.in_err-d.was at c.one.ensures.promise)) }
