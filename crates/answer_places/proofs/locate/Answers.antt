-- `answer_places::locate` meets its contract.
use borrow.Author.Tests.{not-true, not-false}
use Rattle.scan_bundle.proofs.Laws.{opened, malformed_is}
use Rattle.answer_places.proofs.Placing.{spot_asked, placed_outside, placed_malformed, placed_inside}
use Rattle.answer_places.proofs.locate.Goals as goal

pub returns-then-not-n : goal.returns-then-not-n
returns-then-not-n c = placed_outside c.args.bundle.now c.args.n.number c.args.n.value c.args.n.text (not-true _ c.if-not-n.true)

pub spot_of-requires : goal.spot_of-requires
spot_of-requires c = let asked = spot_asked (opened c.index.ensures c.in-Some.is) in record { laid_bundle = asked.0; n_value = asked.1 }

pub returns-in-Some : goal.returns-in-Some
returns-in-Some c = placed_inside c.args.bundle.now c.args.n.number c.args.n.value c.args.n.text (not-false _ c.if-not-n.false) (opened c.index.ensures c.in-Some.is).sound c.spot_of.ensures c.at_spot.ensures

pub returns-in-None : goal.returns-in-None
returns-in-None c = placed_malformed c.args.bundle.now c.args.n.number c.args.n.value c.args.n.text (not-false _ c.if-not-n.false) (malformed_is c.index.ensures c.in-None.is)
