-- `apply_step_lists::one` meets its contract.
use borrow.Author.Rules.{rules}
use native.Mathlib.Omega.{arith}
use Rattle.apply_files.proofs.Columns.{graph_long}
use Rattle.apply_step_lists.proofs.Listing.{one_held, one_on, one_over}
use Rattle.apply_step_lists.proofs.one.Goals as goal

pub mention_all-requires : goal.mention_all-requires
mention_all-requires c = c.requires.asks

pub overflow_add-list : goal.overflow_add-list
overflow_add-list c = omega (arith, c.requires.low)

pub put-requires : goal.put-requires
put-requires c =
    let a = c.requires in
    let w = one_held a.asks (rw c.in_ok-d.was at c.mention_all.ensures.promise) in
    (omega (arith, a.low, graph_long w.columns), omega (arith, w.few_mentions, w.mentions_low))

pub returns : goal.returns
returns c = record { space = search rules; promise = one_on (rw c.in_ok-d.was at c.mention_all.ensures.promise) c.requires.low c.put.ensures }

pub returns-in_err-d : goal.returns-in_err-d
returns-in_err-d c = record { space = search rules; promise = rw c.from_residual.ensures (one_over (rw c.in_err-d.was at c.mention_all.ensures.promise)) }
