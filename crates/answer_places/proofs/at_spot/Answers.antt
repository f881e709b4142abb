-- `answer_places::at_spot` meets its contract.
use Rattle.answer_places.proofs.Placing.{spot_in_text, spot_past_all}
use Rattle.answer_places.proofs.at_spot.Goals as goal

pub returns-then-s-count : goal.returns-then-s-count
returns-then-s-count c = spot_in_text c.args.number c.args.count c.args.s c.if-s-count.true

pub returns : goal.returns
returns c = spot_past_all c.args.number c.args.count c.args.s c.if-s-count.false
