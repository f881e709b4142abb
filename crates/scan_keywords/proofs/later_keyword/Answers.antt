-- `scan_keywords::later_keyword` meets its contract.
use Rattle.spec.specs.Forms.{later_keyword}
use Rattle.scan_keywords.proofs.later_keyword.Goals as goal

pub equal-requires : goal.equal-requires
equal-requires c = tt

pub returns : goal.returns
unfolding later_keyword
returns c = c.equal.ensures
