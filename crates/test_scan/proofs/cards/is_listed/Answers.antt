-- `test_scan::cards::is_listed` meets its contract.
use Rattle.test_scan.proofs.Listing.{not_listed, is_listed_law}
use Rattle.test_scan.proofs.cards.is_listed.Goals as goal

pub returns-then-time_of-eq0 : goal.returns-then-time_of-eq0
returns-then-time_of-eq0 c = not_listed c.args.card.now c.args.name.now c.time_of.ensures c.if-time_of-eq0.true

pub returns-else-time_of-eq0 : goal.returns-else-time_of-eq0
returns-else-time_of-eq0 c = is_listed_law c.args.card.now c.args.name.now c.time_of.ensures c.if-time_of-eq0.false
