-- `graph_order::fill` meets its contract.
use mathlib.Core.Path.{ap, ◌∙◌}
use mathlib.Core.List.{List, ◌++◌}
use Prim.Native.Nat.{ℕ}
use lib.ListN.{length, drop}
use Rattle.graph_order.proofs.Filling.{fill_end}
use Rattle.graph_order.proofs.fill.Goals as goal

pub returns : goal.returns
returns c =
    let l = c.args.l.now in
    let lent = c.args.list.now in
    c.zero_words_from.ensures ∙ fill_end l lent _ c.requires (ap (λ (z : List ℕ). z ++ drop (length l) lent) c.copy_from_slice.ensures.after)
