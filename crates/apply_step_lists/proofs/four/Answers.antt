-- `apply_step_lists::four` meets its contract.
use native.Mathlib.Omega.{arith}
use Rattle.apply_step_lists.proofs.Listing.{four_first, four_second, four_on, four_over}
use borrow.Author.Rules.{rules}
use Rattle.apply_step_lists.proofs.four.Goals as goal

pub end_place-outs_end-requires : goal.end_place-outs_end-requires
end_place-outs_end-requires c = omega (arith, c.requires.few)

pub two-requires : goal.two-requires
two-requires c = rw c.end_place-outs_end.ensures (four_first c.requires)

pub end_place-implicit_end-requires : goal.end_place-implicit_end-requires
end_place-implicit_end-requires c = omega (arith, c.requires.few)

pub two-requires-2 : goal.two-requires-2
two-requires-2 c = rw c.end_place-implicit_end.ensures (four_second c.requires (search rules) (search rules) (rw (c.in_ok-d.was, c.end_place-outs_end.ensures) at c.two.ensures.promise))

pub returns : goal.returns
returns c = record { space = search rules; promise = four_on (rw (c.in_ok-d.was, c.end_place-outs_end.ensures) at c.two.ensures.promise) (rw c.end_place-implicit_end.ensures at c.two-2.ensures.promise) }

pub returns-in_err-d : goal.returns-in_err-d
returns-in_err-d c = record { space = search rules; promise = rw c.from_residual.ensures (four_over (rw (c.in_err-d.was, c.end_place-outs_end.ensures) at c.two.ensures.promise)) }
