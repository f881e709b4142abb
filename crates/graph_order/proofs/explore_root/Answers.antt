-- `graph_order::explore_root` meets its contract.
use native.Mathlib.Omega.{arith}
use Rattle.graph_order.specs.Walk.{RootSeen}
use Rattle.graph_order.proofs.Roots.{root_low, root_none, root_done, root_starts, root_found}
use Rattle.graph_order.proofs.explore_root.Goals as goal

pub maker-k-requires : goal.maker-k-requires
maker-k-requires c = (c.requires.one_more, c.requires.files.low c.args.reached.roots c.requires.one_more)

pub returns-then-k-eq0 : goal.returns-then-k-eq0
unfolding RootSeen
returns-then-k-eq0 c = root_none c.requires c.maker-k.ensures c.if-k-eq0.true

pub at-requires : goal.at-requires
at-requires c = omega (arith, root_low c.requires c.maker-k.ensures, c.if-k-eq0.false, c.requires.state.visited.walk.long)

pub returns-then-at-ne0 : goal.returns-then-at-ne0
unfolding RootSeen
returns-then-at-ne0 c = root_done c.requires c.maker-k.ensures c.if-k-eq0.false c.at.ensures c.if-at-ne0.true

pub explore-requires : goal.explore-requires
explore-requires c = root_starts c.requires c.maker-k.ensures c.if-k-eq0.false c.at.ensures c.if-at-ne0.false

pub returns : goal.returns
returns c = root_found c.requires c.maker-k.ensures c.if-k-eq0.false _ _ _ _ c.explore.result c.explore.ensures
