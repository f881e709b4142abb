-- `expand_order::fronts::runs_ahead` meets its contract.
use Rattle.expand_parts.specs.Runs.{bytes_of}
use Rattle.expand_order.proofs.fronts.runs_ahead.Goals as goal

pub slice_bounds-against-end : goal.slice_bounds-against-end
slice_bounds-against-end c = c.requires.0.in_texts c.if-x.true

pub returns-then-x : goal.returns-then-x
unfolding bytes_of
returns-then-x c = rw c.if-x.true c.against.ensures

pub slice_bounds-against-end-else-x : goal.slice_bounds-against-end-else-x
slice_bounds-against-end-else-x c = c.requires.0.in_raw c.if-x.false

pub returns-else-x : goal.returns-else-x
unfolding bytes_of
returns-else-x c = rw c.if-x.false c.against-else-x.ensures
