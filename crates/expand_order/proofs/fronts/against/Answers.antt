-- `expand_order::fronts::against` meets its contract.
use Rattle.expand_parts.specs.Runs.{bytes_of}
use Rattle.expand_order.proofs.fronts.against.Goals as goal

pub slice_bounds-ahead-end : goal.slice_bounds-ahead-end
slice_bounds-ahead-end c = c.requires.in_texts c.if-y.true

pub returns-then-y : goal.returns-then-y
unfolding bytes_of
returns-then-y c = rw c.if-y.true c.ahead.ensures

pub slice_bounds-ahead-end-else-y : goal.slice_bounds-ahead-end-else-y
slice_bounds-ahead-end-else-y c = c.requires.in_raw c.if-y.false

pub returns-else-y : goal.returns-else-y
unfolding bytes_of
returns-else-y c = rw c.if-y.false c.ahead-else-y.ensures
