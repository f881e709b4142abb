-- `hold_names::sum_four` meets its contract.
use Rattle.hold_names.proofs.Buckets.{sum_four}
use Rattle.hold_names.proofs.sum_four.Goals as goal

pub returns : goal.returns
returns c = sum_four _ _ _ c.requires.0 c.requires.1 c.wide-a.ensures.0 c.wide-b.ensures.0 c.wide-c.ensures.0 c.wide-d.ensures.0
