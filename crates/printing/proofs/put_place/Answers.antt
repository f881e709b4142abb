-- `printing::put_place` meets its contract.
use Rattle.printing.proofs.Putting.{place_plain, place_in_text}
use Rattle.printing.proofs.put_place.Goals as goal

pub returns-then-p-eq0 : goal.returns-then-p-eq0
returns-then-p-eq0 c = place_plain c.args.p.text c.args.p.value c.if-p-eq0.true c.put_number.ensures

pub returns : goal.returns
returns c = place_in_text c.args.p.text c.args.p.value c.if-p-eq0.false c.put_number-behind.ensures c.put_worded.ensures
