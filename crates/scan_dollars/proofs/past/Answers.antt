-- `scan_dollars::past` meets its contract.
use Rattle.scan_dollars.specs.Element.{PastAt}
use Rattle.scan_dollars.proofs.Answers.{tells_bad}
use Rattle.scan_dollars.proofs.Elements.{passed, passed_bad}
use Rattle.scan_dollars.proofs.past.Goals as goal

pub returns-in-Byte : goal.returns-in-Byte
unfolding PastAt
returns-in-Byte c = passed _ _ _ _ c.dollar.ensures c.in-Byte.is

pub returns-in-Byte-2 : goal.returns-in-Byte-2
unfolding PastAt
returns-in-Byte-2 c = passed _ _ _ _ c.dollar.ensures c.in-Byte.is

pub returns-in-Byte-3 : goal.returns-in-Byte-3
unfolding PastAt
returns-in-Byte-3 c = passed _ _ _ _ c.dollar.ensures c.in-Byte.is

pub returns-in-Bad : goal.returns-in-Bad
unfolding PastAt
returns-in-Bad c = passed_bad (tells_bad _ _ _ _ c.dollar.ensures c.in-Bad.is)
