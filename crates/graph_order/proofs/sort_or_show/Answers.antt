-- `graph_order::sort_or_show` meets its contract.
use native.Mathlib.Omega.{arith}
use Rattle.graph_order.specs.Sort.{NeededSorted}
use Rattle.graph_order.proofs.Showing.{shows_order, showable, shows_circle}
use borrow.Author.Rules.{rules}
use Rattle.graph_order.proofs.sort_or_show.Goals as goal

pub show-requires : goal.show-requires
show-requires c = showable _ _ _ _ _ _ _ c.sort.ensures.promise c.in-Err.is (omega (arith, c.sort.auto, c.requires.room, c.requires.asked.path_long))

pub returns-in-Ok : goal.returns-in-Ok
unfolding NeededSorted
returns-in-Ok c = record { space = (record { long = (search rules) }, record { long = (search rules) }, record { long = (search rules) }); promise = shows_order _ _ _ _ _ _ _ c.sort.ensures.promise c.in-Ok.is _ }

pub returns-in-Err : goal.returns-in-Err
unfolding NeededSorted
returns-in-Err c = record { space = (record { long = (search rules) }, record { long = (search rules) }, record { long = (search rules) }); promise = shows_circle _ _ _ _ _ _ _ c.sort.ensures.promise c.in-Err.is c.show.ensures }
