-- `expand_dollars::put_run` meets its contract.
use Rattle.expand_parts.specs.Runs.{bytes_of}
use Rattle.expand_dollars.proofs.put_run.Goals as goal

pub slice_bounds-put-end : goal.slice_bounds-put-end
slice_bounds-put-end c = c.requires.in_texts c.if-r.true

pub slice_bounds-put-end-else-r : goal.slice_bounds-put-end-else-r
slice_bounds-put-end-else-r c = c.requires.in_raw c.if-r.false

pub returns-then-r : goal.returns-then-r
unfolding bytes_of
returns-then-r c = rw c.if-r.true c.put.ensures

pub returns-else-r : goal.returns-else-r
unfolding bytes_of
returns-else-r c = rw c.if-r.false c.put-else-r.ensures
