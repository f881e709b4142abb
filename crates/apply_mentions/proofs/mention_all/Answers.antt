-- `apply_mentions::mention_all` meets its contract.
use native.Mathlib.Omega.{arith}
use borrow.Author.Rules.{rules}
use Rattle.scan_raw.specs.Texts.{PathNext}
use Rattle.cut_forms.proofs.Walks.{goes_on, stops}
use Rattle.apply_mentions.proofs.Passing.{pass_begin, pass_within, pass_asks, pass_on, pass_over, pass_end}
use Rattle.apply_mentions.proofs.mention_all.Goals as goal

pub loop-from-init : goal.loop-from-init
loop-from-init c = pass_begin c.requires

pub next_listed-requires : goal.next_listed-requires
next_listed-requires c = (c.requires.table, pass_within c.loop-from.invariant)

pub slice_bounds-mention-count : goal.slice_bounds-mention-count
slice_bounds-mention-count c = let n : PathNext _ _ _ _ = goes_on _ _ _ c.next_listed.ensures c.in-Some.is in omega (arith, n.longer)

pub slice_bounds-mention-start : goal.slice_bounds-mention-start
slice_bounds-mention-start c = let n : PathNext _ _ _ _ = goes_on _ _ _ c.next_listed.ensures c.in-Some.is in omega (arith, n.longer, n.within)

pub slice_bounds-mention-end : goal.slice_bounds-mention-end
slice_bounds-mention-end c = let n : PathNext _ _ _ _ = goes_on _ _ _ c.next_listed.ensures c.in-Some.is in omega (arith, n.longer, n.within)

pub mention-requires : goal.mention-requires
mention-requires c = pass_asks c.loop-from.invariant (goes_on _ _ _ c.next_listed.ensures c.in-Some.is)

pub loop-from-smaller : goal.loop-from-smaller
loop-from-smaller c = let n : PathNext _ _ _ _ = goes_on _ _ _ c.next_listed.ensures c.in-Some.is in omega (arith, n.forward, n.longer, n.within)

pub loop-from-preserved : goal.loop-from-preserved
loop-from-preserved c = pass_on c.loop-from.invariant (goes_on _ _ _ c.next_listed.ensures c.in-Some.is) (search rules) (search rules) (search rules) (search rules) (rw c.in_ok-d.was at c.mention.ensures.promise)

pub returns-in_err-d : goal.returns-in_err-d
returns-in_err-d c = record { space = search rules; promise = rw c.from_residual.ensures (pass_over c.loop-from.invariant (goes_on _ _ _ c.next_listed.ensures c.in-Some.is) (rw c.in_err-d.was at c.mention.ensures.promise)) }

pub returns : goal.returns
returns c = record { space = search rules; promise = pass_end c.loop-from.invariant (stops _ _ _ c.next_listed.ensures c.in_default.is) }
