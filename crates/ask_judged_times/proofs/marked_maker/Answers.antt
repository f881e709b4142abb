-- `ask_judged_times::marked_maker` meets its contract.
use Rattle.ask_judged_times.proofs.Clearing.{unmade, by_mark}
use Rattle.ask_judged_times.proofs.marked_maker.Goals as goal

pub returns-then-m-eq0 : goal.returns-then-m-eq0
returns-then-m-eq0 c = unmade _ _ _ c.at-m.ensures c.if-m-eq0.true

pub returns : goal.returns
returns c = by_mark _ _ _ c.at-m.ensures c.if-m-eq0.false c.at.ensures
